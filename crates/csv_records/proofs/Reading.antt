-- Where a reader stands that has given some records of a text.
use Rattle.std.proofs.Common.{◌≡◌, ◌++◌, ◌∷◌, ℕ, true, false, List, [], Option, Some, inl, refl, sym, subst, ◌∙◌}
use Rattle.std.specs.Borrow.{Bor}
use Rattle.csv.specs.Reading.{Ready, ReadRecord, Reached, default_config, source_of}
use Rattle.csv.specs.declared.parser.State.TheVariants as st
use Rattle.csv.specs.declared.reader.Reader.{Reader}
use Rattle.csv.specs.declared.reader.Trim.TheVariants as trim
use Rattle.csv.proofs.ReadFacts.{rows-end, rows-more}
use Rattle.csv_records.specs.Records.{IsAtStart, records_from_start}
use Rattle.csv_records.proofs.AllRecords.{are_all}

-- the bytes that a reader of bytes has left
abbrev pub left_of : Bor (List ℕ) → Option (List ℕ)
left_of s = Some s.now

-- the reader has given these records of the text, which were taken in
pub record IsReading (Took : List (List (List ℕ)) → Type 0) (r : Reader (Bor (List ℕ))) (text : List ℕ) : Type 0 where
  pub trim : r.trim ≡ trim.None
  pub ready : Ready r
  pub config : r.config ≡ default_config
  pub done : List (List (List ℕ))
  pub rest : List ℕ
  pub source : source_of left_of r ≡ Some rest
  pub reached : Reached default_config st.StartRecord text done r.state rest
  pub took : Took done

pub begin : (took : List (List (List ℕ)) → Type 0) (r : Reader (Bor (List ℕ))) (text : List ℕ) → IsAtStart r text → took [] → IsReading took r text
unfolding Reached
begin took r text b t = record {
  trim = b.trim;
  ready = b.ready;
  config = b.config;
  done = [];
  rest = text;
  source = b.source;
  reached = (sym b.state, refl);
  took = t;
}

-- one more record
pub more : (took next : List (List (List ℕ)) → Type 0) (a b : Reader (Bor (List ℕ))) (text : List ℕ) (fields : List (List ℕ)) → IsReading took a text
    → ReadRecord left_of a b true fields → b.first ≡ true → ((records : List (List (List ℕ))) → took records → next (records ++ fields ∷ []))
    → IsReading next b text
more took next a b text fields h r first takes =
    let m = rows-more left_of a b fields default_config st.StartRecord text h.rest h.done h.config h.source h.reached r in record {
      trim = r.3 ∙ h.trim;
      ready = inl first;
      config = r.2 ∙ h.config;
      done = h.done ++ fields ∷ [];
      rest = m.0;
      source = m.1;
      reached = m.2;
      took = takes h.done h.took;
    }

-- no record more
pub last : (took : List (List (List ℕ)) → Type 0) (a b : Reader (Bor (List ℕ))) (text : List ℕ) (fields : List (List ℕ)) → IsReading took a text
    → ReadRecord left_of a b false fields → took (records_from_start text)
last took a b text fields h r =
    let none = rows-end left_of a b fields default_config h.rest h.config h.source r in
    subst took (are_all text h.rest a.state h.done h.reached none) h.took
