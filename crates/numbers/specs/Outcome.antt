-- The number of each refusal, and how a call's result is told by number.
use Rattle.std.specs.Prelude.{ℕ, Result, Ok, Err}
use Rattle.numbers.specs.declared.Refusal.{Refusal}
use Rattle.numbers.specs.declared.Refusal.TheVariants.{Size, Stride, Length, Position, Code, Vectors, Room, Fraction, Orders, Version, Domain, Header, Mark, Cut, Recording, Totals, Other}

abbrev pub number_of : Refusal → ℕ
number_of Size = 1
number_of Stride = 2
number_of Length = 3
number_of Position = 4
number_of Code = 5
number_of Vectors = 6
number_of Room = 7
number_of Fraction = 8
number_of Orders = 9
number_of Version = 10
number_of Domain = 11
number_of Header = 12
number_of Mark = 13
number_of Cut = 14
number_of Recording = 15
number_of Totals = 16
number_of (Other o) = o.number

-- what `done` makes of the value that a call gives back, or what `refused` makes of the number by which it refuses
abbrev pub outcome : {A B : Type 0} → (A → B) → (ℕ → B) → Result A Refusal → B
outcome done refused (Ok a) = done a
outcome done refused (Err e) = refused (number_of e)

-- of a call that gives back nothing more: 0, or the number by which it refuses
abbrev pub told : Result Unit Refusal → ℕ
told r = outcome (λ u. 0) (λ n. n) r
