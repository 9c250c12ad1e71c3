-- A refusal's number is never 0, and no two refusals have one number: so a number tells the result of a call that gives back nothing more.
use Rattle.std.proofs.Common.{◌≡◌, ◌∙◌, sym, ap, ℕ, ◌≤◌, ◌<◌, suc, zero, refl, arith, Result, Ok, Err}
use Rattle.std.proofs.Math.Bridge.{le_prop}
use Rattle.numbers.specs.declared.Refusal.{Refusal}
use Rattle.numbers.specs.declared.Refusal.TheVariants.{Size, Stride, Length, Position, Code, Vectors, Room, Fraction, Orders, Version, Domain, Header, Mark, Cut, Recording, Totals, Other}
use Rattle.numbers.specs.Outcome.{number_of, outcome, told}

pub number_least : (e : Refusal) → 1 ≤ number_of e
number_least Size = omega arith
number_least Stride = omega arith
number_least Length = omega arith
number_least Position = omega arith
number_least Code = omega arith
number_least Vectors = omega arith
number_least Room = omega arith
number_least Fraction = omega arith
number_least Orders = omega arith
number_least Version = omega arith
number_least Domain = omega arith
number_least Header = omega arith
number_least Mark = omega arith
number_least Cut = omega arith
number_least Recording = omega arith
number_least Totals = omega arith
number_least (Other o) = let b = o.beyond in omega (arith, b)

-- what refuses is not told as done
pub not_done : (e : Refusal) → number_of e ≡ 0 → ⊥
not_done e z = let h = number_least e in omega (arith, z)

-- the refusal of a number
refusal_of : ℕ → Refusal
refusal_of zero = Size
refusal_of (suc zero) = Size
refusal_of (suc (suc zero)) = Stride
refusal_of (suc (suc (suc zero))) = Length
refusal_of (suc (suc (suc (suc zero)))) = Position
refusal_of (suc (suc (suc (suc (suc zero))))) = Code
refusal_of (suc (suc (suc (suc (suc (suc zero)))))) = Vectors
refusal_of (suc (suc (suc (suc (suc (suc (suc zero))))))) = Room
refusal_of (suc (suc (suc (suc (suc (suc (suc (suc zero)))))))) = Fraction
refusal_of (suc (suc (suc (suc (suc (suc (suc (suc (suc zero))))))))) = Orders
refusal_of (suc (suc (suc (suc (suc (suc (suc (suc (suc (suc zero)))))))))) = Version
refusal_of (suc (suc (suc (suc (suc (suc (suc (suc (suc (suc (suc zero))))))))))) = Domain
refusal_of (suc (suc (suc (suc (suc (suc (suc (suc (suc (suc (suc (suc zero)))))))))))) = Header
refusal_of (suc (suc (suc (suc (suc (suc (suc (suc (suc (suc (suc (suc (suc zero))))))))))))) = Mark
refusal_of (suc (suc (suc (suc (suc (suc (suc (suc (suc (suc (suc (suc (suc (suc zero)))))))))))))) = Cut
refusal_of (suc (suc (suc (suc (suc (suc (suc (suc (suc (suc (suc (suc (suc (suc (suc zero))))))))))))))) = Recording
refusal_of (suc (suc (suc (suc (suc (suc (suc (suc (suc (suc (suc (suc (suc (suc (suc (suc zero)))))))))))))))) = Totals
refusal_of (suc (suc (suc (suc (suc (suc (suc (suc (suc (suc (suc (suc (suc (suc (suc (suc (suc n))))))))))))))))) = Other (record { number = suc (suc (suc (suc (suc (suc (suc (suc (suc (suc (suc (suc (suc (suc (suc (suc (suc n)))))))))))))))); beyond = omega arith })

other_again : (n : ℕ) (b : 16 < n) → refusal_of n ≡ Other (record { number = n; beyond = b })
unfolding refusal_of
other_again zero b = absurd (omega (arith, b))
other_again (suc zero) b = absurd (omega (arith, b))
other_again (suc (suc zero)) b = absurd (omega (arith, b))
other_again (suc (suc (suc zero))) b = absurd (omega (arith, b))
other_again (suc (suc (suc (suc zero)))) b = absurd (omega (arith, b))
other_again (suc (suc (suc (suc (suc zero))))) b = absurd (omega (arith, b))
other_again (suc (suc (suc (suc (suc (suc zero)))))) b = absurd (omega (arith, b))
other_again (suc (suc (suc (suc (suc (suc (suc zero))))))) b = absurd (omega (arith, b))
other_again (suc (suc (suc (suc (suc (suc (suc (suc zero)))))))) b = absurd (omega (arith, b))
other_again (suc (suc (suc (suc (suc (suc (suc (suc (suc zero))))))))) b = absurd (omega (arith, b))
other_again (suc (suc (suc (suc (suc (suc (suc (suc (suc (suc zero)))))))))) b = absurd (omega (arith, b))
other_again (suc (suc (suc (suc (suc (suc (suc (suc (suc (suc (suc zero))))))))))) b = absurd (omega (arith, b))
other_again (suc (suc (suc (suc (suc (suc (suc (suc (suc (suc (suc (suc zero)))))))))))) b = absurd (omega (arith, b))
other_again (suc (suc (suc (suc (suc (suc (suc (suc (suc (suc (suc (suc (suc zero))))))))))))) b = absurd (omega (arith, b))
other_again (suc (suc (suc (suc (suc (suc (suc (suc (suc (suc (suc (suc (suc (suc zero)))))))))))))) b = absurd (omega (arith, b))
other_again (suc (suc (suc (suc (suc (suc (suc (suc (suc (suc (suc (suc (suc (suc (suc zero))))))))))))))) b = absurd (omega (arith, b))
other_again (suc (suc (suc (suc (suc (suc (suc (suc (suc (suc (suc (suc (suc (suc (suc (suc zero)))))))))))))))) b = absurd (omega (arith, b))
other_again (suc (suc (suc (suc (suc (suc (suc (suc (suc (suc (suc (suc (suc (suc (suc (suc (suc n))))))))))))))))) b = ap (λ (h : 16 < suc (suc (suc (suc (suc (suc (suc (suc (suc (suc (suc (suc (suc (suc (suc (suc (suc n))))))))))))))))). Other (record { number = suc (suc (suc (suc (suc (suc (suc (suc (suc (suc (suc (suc (suc (suc (suc (suc (suc n)))))))))))))))); beyond = h })) (le_prop (omega arith) b)

refusal_again : (e : Refusal) → refusal_of (number_of e) ≡ e
unfolding refusal_of
refusal_again Size = refl
refusal_again Stride = refl
refusal_again Length = refl
refusal_again Position = refl
refusal_again Code = refl
refusal_again Vectors = refl
refusal_again Room = refl
refusal_again Fraction = refl
refusal_again Orders = refl
refusal_again Version = refl
refusal_again Domain = refl
refusal_again Header = refl
refusal_again Mark = refl
refusal_again Cut = refl
refusal_again Recording = refl
refusal_again Totals = refl
refusal_again (Other o) = other_again o.number o.beyond

pub one_refusal : (a b : Refusal) → number_of a ≡ number_of b → a ≡ b
one_refusal a b e = sym (refusal_again a) ∙ ap refusal_of e ∙ refusal_again b

-- THEOREM. Where values are told apart, and a value from a refusal by its number, two results that are told alike are one.
pub one_outcome : {A B : Type 0} {done : A → B} {refused : ℕ → B} (number : B → ℕ) → ((a : A) → number (done a) ≡ 0) → ((n : ℕ) → number (refused n) ≡ n)
    → ((a a' : A) → done a ≡ done a' → a ≡ a') → (r r' : Result A Refusal) → outcome done refused r ≡ outcome done refused r' → r ≡ r'
one_outcome number at_done at_refused apart (Ok a) (Ok a') e = ap Ok (apart a a' e)
one_outcome number at_done at_refused apart (Ok a) (Err b) e =
    absurd (not_done b (sym (at_refused (number_of b)) ∙ ap number (sym e) ∙ at_done a))
one_outcome number at_done at_refused apart (Err a) (Ok a') e =
    absurd (not_done a (sym (at_refused (number_of a)) ∙ ap number e ∙ at_done a'))
one_outcome number at_done at_refused apart (Err a) (Err b) e =
    ap Err (one_refusal a b (sym (at_refused (number_of a)) ∙ ap number e ∙ at_refused (number_of b)))

-- Of a call that gives back nothing more its number is enough.
pub one_done : (r r' : Result Unit Refusal) → told r ≡ told r' → r ≡ r'
one_done r r' e = one_outcome (λ n. n) (λ u. refl) (λ n. refl) (λ a a' h. refl) r r' e
