use Rattle.std.proofs.Common.{ℕ, List, [], ◌∷◌, ◌++◌, codes, arith}
use Rattle.tk_io.proofs.Putting.{puts_none, puts_then, puts_as, puts_next, puts_all}
use Rattle.std.specs.List.{flat_map, zip}
use Rattle.topk_base.specs.Lines.{unlines}
use Rattle.ranked_list.specs.declared.row.Row.{Row}
use Rattle.bundle_text.specs.Bundle.{content, section}
use Rattle.cert_judge.proofs.Putting.{bundle_text, zipped_here, zipped_length}
use Rattle.cert_judge.proofs.writing.put_bundle.Goals as goal

pub loop-place-init : goal.loop-place-init
loop-place-init g c = puts_none _

pub loop-place-preserved : goal.loop-place-preserved
loop-place-preserved g c =
    let names = c.args.bundle.now.names in
    let lists = c.args.bundle.now.lists in
    puts_next (λ (list : List ℕ × List Row). unlines (section list.0 list.1)) (zip (content c.args.bundle.now).names (content c.args.bundle.now).lists) c.loop-place.place (c.deref.result.now, c.index-in-loop-place.result.now) _ _ _
    (zipped_here names.items lists.items c.loop-place.place c.index.result.now c.index-in-loop-place.result.now c.deref.result.now
    (omega (arith, c.min-lists.ensures, c.len.ensures, names.ok.0)) (omega (arith, c.min-lists.ensures, c.len-2.ensures, lists.ok.0)) c.index.ensures c.deref.ensures.value c.index-in-loop-place.ensures)
    c.loop-place.invariant c.put_section.ensures

pub returns : goal.returns
returns g c =
    let bundle = content c.args.bundle.now in
    let names = c.args.bundle.now.names in
    let lists = c.args.bundle.now.lists in
    let text : List ℕ = flat_map (λ (list : List ℕ × List Row). unlines (section list.0 list.1)) (zip bundle.names bundle.lists) in
    puts_as _ _ _ _ (bundle_text bundle)
    (puts_then _ _ _ text (codes "query " ++ (bundle.query ++ 10 ∷ []))
    (puts_all (λ (ls : List (List ℕ × List Row)). flat_map (λ (list : List ℕ × List Row). unlines (section list.0 list.1)) ls) (zip bundle.names bundle.lists) c.loop-place.place _ _
    (zipped_length names.items lists.items c.loop-place.place (omega (arith, c.min-lists.ensures, c.len.ensures, c.len-2.ensures, names.ok.0, lists.ok.0))) c.loop-place.invariant)
    (puts_then _ _ _ (codes "query ") (bundle.query ++ 10 ∷ []) c.put.ensures.puts
    (puts_then _ _ _ bundle.query (10 ∷ []) (rw c.deref-2.ensures.value at c.put-2.ensures.puts) c.put-3.ensures.puts)))
