-- What a source over a dial is, and what its calls make of it.
use Rattle.std.specs.Prelude.{ℕ, List, Option, Result, Ok, Err, refl}
use Rattle.std.specs.Coded.{Coded, code_by, coded×, coded_ℕ, coded_list}
use Rattle.std.specs.Global.{Vec}
use Rattle.tk_io.specs.Calls.{HostPort}
use Rattle.ranked_list.specs.declared.row.Row.{Row}
use Rattle.source_api.specs.declared.counts.Counts.{Counts}
use Rattle.source_api.specs.declared.source.Trouble.{Trouble}
use Rattle.source_api.specs.Counting.{troubled, gave_rows, gave_grade}
use Rattle.wire.specs.Writing.{asking_text}

-- the dial, where the list is served, the version at hand, and what was counted beside the dial's faults
pub record Served (D : Type 0) : Type 0 where
  pub dial : D
  pub host : List ℕ
  pub port : ℕ
  pub path : List ℕ
  pub version : ℕ
  pub counted : Counts

-- counts are stored as the five in a row
abbrev pub counts_code : Coded Counts
counts_code =
    code_by (ℕ × (ℕ × (ℕ × (ℕ × ℕ)))) (coded× coded_ℕ (coded× coded_ℕ (coded× coded_ℕ (coded× coded_ℕ coded_ℕ))))
    (λ c. (c.faults, (c.garbles, (c.moves, (c.rows_given, c.grades_given)))))
    (λ p. record { faults = p.0; garbles = p.1.0; moves = p.1.1.0; rows_given = p.1.1.1.0; grades_given = p.1.1.1.1 }) (λ _. refl)

-- a source is stored as its fields in a row
abbrev pub served_code : {D : Type 0} → Coded D → Coded (Served D)
served_code {D} c =
    code_by (D × (List ℕ × (ℕ × (List ℕ × (ℕ × Counts)))))
    (coded× c (coded× (coded_list coded_ℕ) (coded× coded_ℕ (coded× (coded_list coded_ℕ) (coded× coded_ℕ counts_code)))))
    (λ s. (s.dial, (s.host, (s.port, (s.path, (s.version, s.counted))))))
    (λ p. record { dial = p.0; host = p.1.0; port = p.1.1.0; path = p.1.1.1.0; version = p.1.1.1.1.0; counted = p.1.1.1.1.1 }) (λ _. refl)

-- the request for what stands under the list's path
abbrev pub request_of : {D : Type 0} → Served D → List ℕ → List ℕ
request_of s tail = asking_text s.host s.port s.path tail

-- the host where the list is served, and its port there
abbrev pub host_port_of : {D : Type 0} → Served D → HostPort
host_port_of s = record { host = s.host; port = s.port }

-- what the source has counted; its faults are those of its dial
abbrev pub counts_with : ℕ → Counts → Counts
counts_with faults counted = record counted { faults = faults }

-- after a call for the size that ended so
abbrev pub size_counted : Result ℕ Trouble → Counts → Counts
size_counted (Ok size) counted = counted
size_counted (Err why) counted = troubled why counted

-- after a call for rows that ended so
abbrev pub page_counted : Result (Vec Row) Trouble → Counts → Counts
page_counted (Ok page) counted = gave_rows page.len counted
page_counted (Err why) counted = troubled why counted

-- after a call for a grade that ended so
abbrev pub grade_counted : Result (Option ℕ) Trouble → Counts → Counts
grade_counted (Ok grade) counted = gave_grade counted
grade_counted (Err why) counted = troubled why counted
