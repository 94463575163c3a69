-- What a call on the source of a place asks for, by whether it is over a file or over a list that a host serves.
use Rattle.std.specs.Prelude.{◌≡◌, ℕ, List, [], Option, Some, Result, IfSome, ⊤}
use Rattle.std.specs.Global.{Vec}
use Rattle.ranked_list.specs.declared.row.Row.{Row}
use Rattle.tk_io.specs.Calls.{HostPort}
use Rattle.tk_io.specs.Links.{Closed}
use Rattle.source_api.specs.declared.counts.Counts.{Counts}
use Rattle.source_api.specs.declared.source.Trouble.{Trouble}
use Rattle.http_source.specs.Requests.{size_tail, page_tail, grade_tail}
use Rattle.http_source.specs.Exchanges.{next_bytes, UsesLink, DialsOnce, FailsWith, IsUnanswered}
use Rattle.http_source.specs.Answers.{AnswersSize, AnswersPage, AnswersGrade}
use Rattle.http_source.specs.Served.{Served, request_of, host_port_of, size_counted, page_counted, grade_counted}
use Rattle.place_shelf.specs.declared.place_source.PlaceSource.{PlaceSource}
use Rattle.place_shelf.specs.declared.place_source.PlaceSource.TheVariants.{File, Http}

-- a call asks a host once for what stands behind the list's path, on one link to the list's host and port, whose bytes decide the answer where they are
-- told; the list stays the one at this host, port and path, at this version from then on
pub record AsksHost {D T : Type 0} (links : D → Option (List (List ℕ))) (closed : D → Option (List Closed)) (faults : D → ℕ)
    (dialled : D → Option (List HostPort)) (tail : List ℕ) (Answers : List ℕ → ℕ → Result T Trouble → Type 0) (counted : Result T Trouble → Counts → Counts)
    (version : ℕ) (before now : Served D) (result : Result T Trouble) : Type 0 where
  pub answer : IfSome (next_bytes (links before.dial)) (λ bytes. Answers bytes version result)
  pub unlinked : links before.dial ≡ Some [] → IsUnanswered result
  pub failed : FailsWith (faults before.dial) (faults now.dial) result
  pub dials : DialsOnce (host_port_of before) (dialled before.dial) (dialled now.dial) result
  pub link : UsesLink (request_of before tail) (links before.dial) (links now.dial) (closed before.dial) (closed now.dial) result
  pub after : now ≡ record before { dial = now.dial; version = version; counted = counted result before.counted }

-- a call for the size: of a file no host is asked, and of a list that a host serves its size there; what is a file, or is served, stays so
abbrev pub AsksSize : {D L : Type 0} → (D → Option (List (List ℕ))) → (D → Option (List Closed)) → (D → ℕ) → (D → Option (List HostPort))
    → PlaceSource D L → PlaceSource D L → Result ℕ Trouble → Type 0
AsksSize links closed faults dialled (File f) (File g) result = ⊤
AsksSize links closed faults dialled (Http s) (Http t) result = AsksHost links closed faults dialled size_tail AnswersSize size_counted t.version s t result
AsksSize links closed faults dialled _ _ result = ⊥

-- a call for rows: the same, but for at most `count` rows after the first `from`, at the version at hand
abbrev pub AsksPage : {D L : Type 0} → (D → Option (List (List ℕ))) → (D → Option (List Closed)) → (D → ℕ) → (D → Option (List HostPort))
    → ℕ → ℕ → PlaceSource D L → PlaceSource D L → Result (Vec Row) Trouble → Type 0
AsksPage links closed faults dialled from count (File f) (File g) result = ⊤
AsksPage links closed faults dialled from count (Http s) (Http t) result =
    AsksHost links closed faults dialled (page_tail from count) (λ bytes version. AnswersPage bytes version count) page_counted s.version s t result
AsksPage links closed faults dialled from count _ _ result = ⊥

-- a call for a grade: the same, but for the grade of the object, at the version at hand
abbrev pub AsksGrade : {D L : Type 0} → (D → Option (List (List ℕ))) → (D → Option (List Closed)) → (D → ℕ) → (D → Option (List HostPort))
    → ℕ → PlaceSource D L → PlaceSource D L → Result (Option ℕ) Trouble → Type 0
AsksGrade links closed faults dialled object (File f) (File g) result = ⊤
AsksGrade links closed faults dialled object (Http s) (Http t) result =
    AsksHost links closed faults dialled (grade_tail object) AnswersGrade grade_counted s.version s t result
AsksGrade links closed faults dialled object _ _ result = ⊥
