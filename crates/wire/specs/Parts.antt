-- Parts of a message that stand at the front of bytes: a kind of part is given by its valid trees, and by the bytes that each tree is printed as.
use Rattle.std.specs.Prelude.{◌≡◌, ◌⊎◌, ℕ, ◌<◌, ◌≤◌, List, [], ◌∷◌, ◌++◌, length, drop, Option, Some, None, IfSome, Result, Ok, Err, ⊤}
use Rattle.std.specs.Io.KnownBytes.{Consumes}
use Rattle.topk_base.specs.declared.TheConstants.{MAX_HEAD, MAX_HEADERS}
use Rattle.wire.specs.declared.fault.WireFault.{WireFault}
use Rattle.wire.specs.declared.fault.WireFault.TheVariants.{LinkFault, BadMessage, TooLong, Memory}
use Rattle.wire.specs.declared.part.Found.{Found}

-- the bytes are a part of the kind and then the rest
abbrev pub Reads : {A : Type 0} → (A → Type 0) → (A → List ℕ) → List ℕ → A → List ℕ → Type 0
Reads Valid print bytes part rest = Valid part × (bytes ≡ print part ++ rest)

-- a part of the kind stands at the front
abbrev pub HasOne : {A : Type 0} → (A → Type 0) → (A → List ℕ) → List ℕ → Type 0
HasOne {A} Valid print bytes = (part : A) × (rest : List ℕ) × Reads Valid print bytes part rest

-- no part of the kind stands at the front
abbrev pub HasNone : {A : Type 0} → (A → Type 0) → (A → List ℕ) → List ℕ → Type 0
HasNone {A} Valid print bytes = (part : A) (rest : List ℕ) → Reads Valid print bytes part rest → ⊥

-- there are more bytes than the limit, and no part of the kind within it stands at the front
abbrev pub PassesBytes : {A : Type 0} → (A → Type 0) → (A → List ℕ) → ℕ → List ℕ → Type 0
PassesBytes {A} Valid print limit bytes =
    (limit < length bytes) × ((part : A) (rest : List ℕ) → Reads Valid print bytes part rest → limit < length (print part))

-- a front of the bytes and an empty line are a part of more lines than the limit, and no part within it stands at the front
abbrev pub PassesLines : {A : Type 0} → (A → Type 0) → (A → List ℕ) → (A → ℕ) → ℕ → List ℕ → Type 0
PassesLines {A} Valid print lines limit bytes =
    ((front : List ℕ) × (rest : List ℕ) × (bytes ≡ front ++ rest)
    × (part : A) × Reads Valid print (front ++ 10 ∷ []) part [] × (limit < lines part))
    × ((part : A) (rest : List ℕ) → Reads Valid print bytes part rest → limit < lines part)

-- more came than a head or trailers may have, of bytes or of lines
abbrev pub PassesHeadLimits : {A : Type 0} → (A → Type 0) → (A → List ℕ) → (A → ℕ) → ℕ → List ℕ → Type 0
PassesHeadLimits Valid print lines limit bytes =
    ((limit ≡ MAX_HEAD) × PassesBytes Valid print MAX_HEAD bytes) ⊎ ((limit ≡ MAX_HEADERS) × PassesLines Valid print lines MAX_HEADERS bytes)

-- what is found in bytes, whatever follows: a part of the kind with its length and what it says, none yet, none ever, or more than a limit
abbrev pub Finds : {A T : Type 0} → (A → Type 0) → (A → List ℕ) → (A → T → Type 0) → (ℕ → List ℕ → Type 0) → List ℕ → Result (Option (Found T)) WireFault → Type 0
Finds {A} Valid print Says Passes bytes (Ok (Some found)) = (part : A) × Says part found.part × Reads Valid print bytes part (drop found.len bytes) × (found.len ≤ length bytes)
Finds {A} Valid print Says Passes bytes (Ok None) = HasNone Valid print bytes
Finds {A} Valid print Says Passes bytes (Err LinkFault) = ⊥
Finds {A} Valid print Says Passes bytes (Err BadMessage) = (more : List ℕ) → HasNone Valid print (bytes ++ more)
Finds {A} Valid print Says Passes bytes (Err (TooLong limit)) = (more : List ℕ) → Passes limit (bytes ++ more)
Finds {A} Valid print Says Passes bytes (Err Memory) = ⊤

-- what is taken of bytes: a part of the kind that says so, or none was there, or more came than a limit
abbrev pub Takes : {A T : Type 0} → (A → Type 0) → (A → List ℕ) → (A → T → Type 0) → (ℕ → List ℕ → Type 0) → Option (List ℕ) → Option (List ℕ) → Result T WireFault → Type 0
Takes {A} Valid print Says Passes before now (Ok x) = (part : A) × Says part x × Valid part × Consumes before now (print part)
Takes {A} Valid print Says Passes before now (Err LinkFault) = ⊤
Takes {A} Valid print Says Passes before now (Err BadMessage) = IfSome before (HasNone Valid print)
Takes {A} Valid print Says Passes before now (Err (TooLong limit)) = IfSome before (Passes limit)
Takes {A} Valid print Says Passes before now (Err Memory) = ⊤
