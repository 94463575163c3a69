-- An expression as a query text has it.
use Rattle.std.specs.Prelude.{ℕ, List, Option, Some, None, IsTrue, [], ◌∷◌}
use Rattle.topk_base.specs.Numbers.{is_number}
use Rattle.topk_base.specs.Names.{IsName}
use Rattle.query_text.specs.declared.operator.Operator.{Operator}
use Rattle.query_text.specs.declared.operator.Operator.TheVariants.{Wsum}

mutual
  -- the name of a list, or an operator over arguments
  pub data Written : Type 0 where
    name : List ℕ → Written
    call : Operator → Arguments → Written

  -- arguments in order, each with the digits of the weight that stands before it, if one does
  pub data Arguments : Type 0 where
    no_argument : Arguments
    argument_then : Option (List ℕ) → Written → Arguments → Arguments

-- an argument with the digits of its weight
abbrev pub Argument : Type 0
Argument = Option (List ℕ) × Written

-- the arguments of a list
abbrev pub arguments_from : List Argument → Arguments
arguments_from [] = Arguments.no_argument
arguments_from (argument ∷ rest) = Arguments.argument_then argument.0 argument.1 (arguments_from rest)

-- the text is a number
abbrev pub IsNumber : List ℕ → Type 0
IsNumber text = IsTrue (is_number text)

-- no weight stands there
abbrev pub HasNoWeight : Option (List ℕ) → Type 0
HasNoWeight None = Unit {0}
HasNoWeight (Some digits) = ⊥

-- a weight stands before each argument of a weighted sum, and before no other argument
abbrev pub IsWeight : Operator → Option (List ℕ) → Type 0
IsWeight Wsum None = ⊥
IsWeight Wsum (Some digits) = IsNumber digits
IsWeight _ weight = HasNoWeight weight

-- there is one argument or more
abbrev pub HasArgument : Arguments → Type 0
HasArgument Arguments.no_argument = ⊥
HasArgument (Arguments.argument_then weight first rest) = Unit {0}

-- each name is a name, each operator has arguments, and weights stand where they belong
abbrev mutual
  pub IsWritten : Written → Type 0
  IsWritten (Written.name text) = IsName text
  IsWritten (Written.call operator arguments) = HasArgument arguments × AreArguments operator arguments

  pub AreArguments : Operator → Arguments → Type 0
  AreArguments operator Arguments.no_argument = Unit {0}
  AreArguments operator (Arguments.argument_then weight first rest) = IsWeight operator weight × IsWritten first × AreArguments operator rest
