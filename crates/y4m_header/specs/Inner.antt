-- What the functions inside this crate promise one another.
use Rattle.std.specs.Prelude.{◌≡◌, ◌≤◌, true, false, cond, ℕ, eqb, Option, Some, None, unwrap_or, MatchOption}
use Rattle.std.specs.Option.{ForSome}
use Rattle.y4m_header.specs.HeaderLine.{Told, HeaderAnswer, refused}
use Rattle.y4m_header.specs.declared.Header.{Header}
use Rattle.y4m_header.specs.declared.header_line.Parameters.{Parameters}

-- a size, where it is one
abbrev pub some_size : ℕ → Option ℕ
some_size n = cond (eqb n 0) None (Some n)

-- what is told so far, as the definitions have it
abbrev pub so_far : Parameters → Told
so_far p = record { good = true; width = unwrap_or p.width 0; height = unwrap_or p.height 0; colour = p.colour }

-- a size that is told is not 0
pub record Sound (p : Parameters) : Type 0 where
  pub wide : ForSome p.width (λ n. 1 ≤ n)
  pub high : ForSome p.height (λ n. 1 ≤ n)

-- what the functions keep of what is told: nothing, once a rule is broken
pub record Kept (t : Told) (p : Parameters) : Type 0 where
  pub is : t ≡ so_far p
  pub sound : Sound p

abbrev pub HeardAs : Told → Option Parameters → Type 0
HeardAs t o = MatchOption o (t.good ≡ false) (Kept t)

-- a header, or that there is none
abbrev pub header_read : Option Header → HeaderAnswer
header_read None = refused
header_read (Some h) = record { number = 0; width = h.width; height = h.height; taken = h.taken }
