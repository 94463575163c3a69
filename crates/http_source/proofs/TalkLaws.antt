-- A request on a link, and the response.
use Rattle.std.proofs.Common.{◌≡◌, ◌+◌, ℕ, List, [], Option, Result, Ok, Err, sym, subst, arith}
use Rattle.std.specs.Io.KnownBytes.{Appends}
use Rattle.std.proofs.lemmas.List.{append-nil}
use Rattle.tk_io.specs.Faults.{Rose}
use Rattle.tk_io.specs.Whole.{TookFront}
use Rattle.wire.specs.LinkTold.{Counts}
use Rattle.wire.specs.declared.fault.WireFault.{WireFault}
use Rattle.wire.specs.declared.fault.WireFault.TheVariants.{LinkFault, BadMessage, TooLong, Memory}
use Rattle.wire.specs.declared.response.Reply.{Reply}
use Rattle.http_source.specs.Asking.{TakesRequest}

-- a request that was taken whole
pub took_all : (held mid now : Option (List ℕ)) (request : List ℕ) (reply : Result Reply WireFault) → Appends held mid request → now ≡ mid → TakesRequest held now request reply
took_all held mid now request reply took same = by reply
  where
    all : Appends held now request
    all = subst (λ (after : Option (List ℕ)). Appends held after request) (sym same) took

    by : (r : Result Reply WireFault) → TakesRequest held now request r
    by (Ok r) = all
    by (Err LinkFault) = (request, [], sym (append-nil request), all)
    by (Err BadMessage) = all
    by (Err (TooLong limit)) = all
    by (Err Memory) = (request, [], sym (append-nil request), all)

-- the reads failed exactly where the call did, and no write did
pub counts_reads : (reads reads_now writes_now : ℕ) (reply : Result Reply WireFault) → reads ≡ 0 → writes_now ≡ 0 → Counts reads reads_now reply → Counts 0 (reads_now + writes_now) reply
counts_reads reads reads_now writes_now (Ok reply) first none counts = omega (arith, counts)
counts_reads reads reads_now writes_now (Err LinkFault) first none counts = omega (arith, counts)
counts_reads reads reads_now writes_now (Err BadMessage) first none counts = omega (arith, counts)
counts_reads reads reads_now writes_now (Err (TooLong limit)) first none counts = omega (arith, counts)
counts_reads reads reads_now writes_now (Err Memory) first none counts = omega (arith, counts)

-- a write failed
pub took_front : (held now : Option (List ℕ)) (request : List ℕ) (fault : WireFault) → fault ≡ LinkFault → TookFront held now request → TakesRequest held now request (Err fault)
took_front held now request fault is took = subst (λ (f : WireFault). TakesRequest held now request (Err f)) (sym is) took

pub counts_writes : (reads writes writes_now : ℕ) (fault : WireFault) → fault ≡ LinkFault → writes ≡ 0 → Rose writes writes_now → Counts {T = Reply} 0 (reads + writes_now) (Err fault)
counts_writes reads writes writes_now fault is first rose =
    let some : Rose 0 (reads + writes_now) = omega (arith, rose) in
    subst (λ (f : WireFault). Counts {T = Reply} 0 (reads + writes_now) (Err f)) (sym is) some
