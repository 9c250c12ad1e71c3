-- Worked examples: header lines that are read, and lines that break one rule each.
use Rattle.std.specs.Prelude.{◌≡◌, refl, List, [], ◌∷◌, ◌++◌, ℕ, replicate}
use Rattle.y4m_header.specs.Words.{before, words, same, digits, worth}
use Rattle.y4m_header.specs.HeaderLine.{mark, size, tell_width, tell_height, tell_colour, tell, tell_all, told, refused, heading, header_of}

-- a space and W16, a space and H8
w16 : List ℕ
w16 = 32 ∷ 87 ∷ 49 ∷ 54 ∷ []

h8 : List ℕ
h8 = 32 ∷ 72 ∷ 56 ∷ []

read : header_of (mark ++ w16 ++ h8 ++ 10 ∷ []) ≡ record { number = 0; width = 16; height = 8; taken = 17 }
unfolding before words same digits worth size tell_width tell_height tell_colour tell tell_all told heading header_of w16 h8
read = refl

other_order : header_of (mark ++ h8 ++ w16 ++ 10 ∷ []) ≡ record { number = 0; width = 16; height = 8; taken = 17 }
unfolding before words same digits worth size tell_width tell_height tell_colour tell tell_all told heading header_of w16 h8
other_order = refl

-- W00016
leading_zeros : header_of (mark ++ (32 ∷ 87 ∷ 48 ∷ 48 ∷ 48 ∷ 49 ∷ 54 ∷ []) ++ h8 ++ 10 ∷ []) ≡ record { number = 0; width = 16; height = 8; taken = 20 }
unfolding before words same digits worth size tell_width tell_height tell_colour tell tell_all told heading header_of w16 h8
leading_zeros = refl

-- F25:1, w16, XW16 and C420jpeg besides
skipped : header_of (mark ++ (32 ∷ 70 ∷ 50 ∷ 53 ∷ 58 ∷ 49 ∷ []) ++ w16 ++ h8 ++ (32 ∷ 119 ∷ 49 ∷ 54 ∷ 32 ∷ 88 ∷ 87 ∷ 49 ∷ 54 ∷ []) ++ (32 ∷ 67 ∷ 52 ∷ 50 ∷ 48 ∷ 106 ∷ 112 ∷ 101 ∷ 103 ∷ []) ++ 10 ∷ []) ≡ record { number = 0; width = 16; height = 8; taken = 41 }
unfolding before words same digits worth size tell_width tell_height tell_colour tell tell_all told heading header_of w16 h8
skipped = refl

-- a tab parts nothing: X and a tab and W9
tab_skipped : header_of (mark ++ w16 ++ h8 ++ (32 ∷ 88 ∷ 9 ∷ 87 ∷ 57 ∷ []) ++ 10 ∷ []) ≡ record { number = 0; width = 16; height = 8; taken = 22 }
unfolding before words same digits worth size tell_width tell_height tell_colour tell tell_all told heading header_of w16 h8
tab_skipped = refl

two_spaces : header_of (mark ++ (32 ∷ []) ++ w16 ++ h8 ++ 10 ∷ []) ≡ refused
unfolding before words same digits worth size tell_width tell_height tell_colour tell tell_all told heading header_of w16 h8
two_spaces = refl

space_at_end : header_of (mark ++ w16 ++ h8 ++ (32 ∷ []) ++ 10 ∷ []) ≡ refused
unfolding before words same digits worth size tell_width tell_height tell_colour tell tell_all told heading header_of w16 h8
space_at_end = refl

no_newline : header_of (mark ++ w16 ++ h8) ≡ refused
unfolding before words same digits worth size tell_width tell_height tell_colour tell tell_all told heading header_of w16 h8
no_newline = refl

tab_for_space : header_of (mark ++ (9 ∷ 87 ∷ 49 ∷ 54 ∷ []) ++ h8 ++ 10 ∷ []) ≡ refused
unfolding before words same digits worth size tell_width tell_height tell_colour tell tell_all told heading header_of w16 h8
tab_for_space = refl

width_twice : header_of (mark ++ w16 ++ h8 ++ w16 ++ 10 ∷ []) ≡ refused
unfolding before words same digits worth size tell_width tell_height tell_colour tell tell_all told heading header_of w16 h8
width_twice = refl

-- w16 is another parameter
no_width : header_of (mark ++ (32 ∷ 119 ∷ 49 ∷ 54 ∷ []) ++ h8 ++ 10 ∷ []) ≡ refused
unfolding before words same digits worth size tell_width tell_height tell_colour tell tell_all told heading header_of w16 h8
no_width = refl

-- Wide
wide : header_of (mark ++ (32 ∷ 87 ∷ 105 ∷ 100 ∷ 101 ∷ []) ++ h8 ++ 10 ∷ []) ≡ refused
unfolding before words same digits worth size tell_width tell_height tell_colour tell tell_all told heading header_of w16 h8
wide = refl

-- W
no-digits : header_of (mark ++ (32 ∷ 87 ∷ []) ++ h8 ++ 10 ∷ []) ≡ refused
unfolding before words same digits worth size tell_width tell_height tell_colour tell tell_all told heading header_of w16 h8
no-digits = refl

-- W0
zero : header_of (mark ++ (32 ∷ 87 ∷ 48 ∷ []) ++ h8 ++ 10 ∷ []) ≡ refused
unfolding before words same digits worth size tell_width tell_height tell_colour tell tell_all told heading header_of w16 h8
zero = refl

-- W16385
too_wide : header_of (mark ++ (32 ∷ 87 ∷ 49 ∷ 54 ∷ 51 ∷ 56 ∷ 53 ∷ []) ++ h8 ++ 10 ∷ []) ≡ refused
unfolding before words same digits worth size tell_width tell_height tell_colour tell tell_all told heading header_of w16 h8
too_wide = refl

-- W000016
six-digits : header_of (mark ++ (32 ∷ 87 ∷ 48 ∷ 48 ∷ 48 ∷ 48 ∷ 49 ∷ 54 ∷ []) ++ h8 ++ 10 ∷ []) ≡ refused
unfolding before words same digits worth size tell_width tell_height tell_colour tell tell_all told heading header_of w16 h8
six-digits = refl

-- C420mpeg2
mpeg2 : header_of (mark ++ w16 ++ h8 ++ (32 ∷ 67 ∷ 52 ∷ 50 ∷ 48 ∷ 109 ∷ 112 ∷ 101 ∷ 103 ∷ 50 ∷ []) ++ 10 ∷ []) ≡ refused
unfolding before words same digits worth size tell_width tell_height tell_colour tell tell_all told heading header_of w16 h8
mpeg2 = refl

-- C420jpeg twice
colour_twice : header_of (mark ++ w16 ++ h8 ++ (32 ∷ 67 ∷ 52 ∷ 50 ∷ 48 ∷ 106 ∷ 112 ∷ 101 ∷ 103 ∷ 32 ∷ 67 ∷ 52 ∷ 50 ∷ 48 ∷ 106 ∷ 112 ∷ 101 ∷ 103 ∷ []) ++ 10 ∷ []) ≡ refused
unfolding before words same digits worth size tell_width tell_height tell_colour tell tell_all told heading header_of w16 h8
colour_twice = refl

empty : header_of [] ≡ refused
unfolding before header_of
empty = refl

-- 256 bytes with the newline, and one more
full : header_of (mark ++ w16 ++ h8 ++ 32 ∷ replicate 238 88 ++ 10 ∷ []) ≡ record { number = 0; width = 16; height = 8; taken = 256 }
unfolding before words same digits worth size tell_width tell_height tell_colour tell tell_all told heading header_of w16 h8
full = refl

too_long : header_of (mark ++ w16 ++ h8 ++ 32 ∷ replicate 239 88 ++ 10 ∷ []) ≡ refused
unfolding before words same digits worth size tell_width tell_height tell_colour tell tell_all told heading header_of w16 h8
too_long = refl
