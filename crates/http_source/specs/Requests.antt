-- What stands behind a list's path in a request.
use Rattle.std.specs.Prelude.{ℕ, List, ◌++◌, codes, decimal}

-- of a request for the list's size
abbrev pub size_tail : List ℕ
size_tail = codes "/size"

-- of a request for the rows after the first `from`, at most `count` of them
abbrev pub page_tail : ℕ → ℕ → List ℕ
page_tail from count = codes "/page?from=" ++ (decimal from ++ (codes "&count=" ++ decimal count))

-- of a request for the grade of an object
abbrev pub grade_tail : ℕ → List ℕ
grade_tail object = codes "/grade?object=" ++ decimal object
