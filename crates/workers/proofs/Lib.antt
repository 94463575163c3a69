-- Lemmas on slots that were not served yet, and on the handles of workers that kept their passes.
pub mod SideLaws
