-- The two codes of an order, as the code reads them.
use Rattle.std.specs.Prelude.{ℕ, zero, suc, List, Result, Ok, Err}
use Rattle.numbers.specs.declared.Refusal.{Refusal}
use Rattle.numbers.specs.declared.Refusal.TheVariants.{Orders}
use Rattle.frame.specs.Frame.{reference_code, kind_code}
use Rattle.frame.specs.declared.pictures.Named.{Named}
use Rattle.frame.specs.declared.pictures.Named.TheVariants.{Last, Golden, Altref}
use Rattle.frame.specs.declared.orders.Kind.{Kind}
use Rattle.frame.specs.declared.orders.Kind.TheVariants.{Whole, Split}
use Rattle.frame.specs.declared.orders.Codes.{Codes}

abbrev pub reference_of : ℕ → Result Named Refusal
reference_of zero = Ok Last
reference_of (suc zero) = Ok Golden
reference_of (suc (suc zero)) = Ok Altref
reference_of (suc (suc (suc n))) = Err Orders

abbrev pub kind_of : ℕ → Result Kind Refusal
kind_of zero = Ok Whole
kind_of (suc zero) = Ok Split
kind_of (suc (suc n)) = Err Orders

abbrev pub codes_of : Result Named Refusal → Result Kind Refusal → Result Codes Refusal
codes_of (Ok n) (Ok k) = Ok (record { named = n; kind = k })
codes_of (Ok n) (Err e) = Err e
codes_of (Err e) k = Err e

abbrev pub codes_at : List ℕ → ℕ → Result Codes Refusal
codes_at orders k = codes_of (reference_of (reference_code orders k)) (kind_of (kind_code orders k))
