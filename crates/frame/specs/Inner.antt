-- What the functions inside this crate promise one another.
use Rattle.std.specs.Prelude.{◌≡◌, List, ℕ, ◌+◌, ◌-◌, ◌*◌, ◌≤◌, length}
use Rattle.rfc6386.specs.Raster.{written}
use Rattle.rfc6386.specs.Channel.{Channel, luma, chroma_u, chroma_v, side}
use Rattle.rfc6386.specs.declared.Sizes.{Sizes}
use Rattle.frame.specs.Frame.{Planes, planes, References, references_of, Asked, asked_of, cols, rows, frame_sample, references_refusal}
use Rattle.frame.specs.declared.Strides.{Strides}
use Rattle.frame.specs.declared.pictures.Picture.{Picture}
use Rattle.frame.specs.declared.pictures.Pictures.{Pictures}
use Rattle.frame.specs.declared.pictures.Task.{Task}
use Rattle.frame.specs.declared.pictures.Named.{Named}
use Rattle.frame.specs.declared.pictures.Named.TheVariants.{Last, Golden, Altref}

-- ---- the pictures that are lent
abbrev pub planes_in : Picture → Planes
planes_in p = planes p.y.now p.u.now p.v.now

abbrev pub planes_named : Named → Pictures → Planes
planes_named Last p = planes_in p.last
planes_named Golden p = planes_in p.golden
planes_named Altref p = planes_in p.altref

abbrev pub references_in : Sizes → Pictures → References
references_in sizes p =
    references_of sizes p.last.y.now p.last.u.now p.last.v.now p.golden.y.now p.golden.u.now p.golden.v.now p.altref.y.now p.altref.u.now p.altref.v.now

abbrev pub asked_in : Task → Asked
asked_in t =
    let p = t.pictures in
    asked_of t.frame p.last.y.now p.last.u.now p.last.v.now p.golden.y.now p.golden.u.now p.golden.v.now p.altref.y.now p.altref.u.now p.altref.v.now t.orders.now

-- so many bytes hold a plane of w by h samples
pub record Holds (bytes stride w h : ℕ) : Type 0 where
  pub across : w ≤ stride
  pub down : (h - 1) * stride + w ≤ bytes

-- nothing is refused: the references, the lengths of the planes that are written, and the orders
pub record Ready (a : Asked) (s : Strides) (y u v : ℕ) : Type 0 where
  pub accepted : references_refusal a.refs ≡ 0
  pub y_room : Holds y s.y (cols a * 16) (rows a * 16)
  pub u_room : Holds u s.u (cols a * 8) (rows a * 8)
  pub v_room : Holds v s.v (cols a * 8) (rows a * 8)
  pub orders_are : length a.orders ≡ 66 * (rows a * cols a)

-- a plane with the first n macroblocks of a row in it
unfoldable pub row_part : Asked → Channel → List ℕ → ℕ → ℕ → ℕ → List ℕ
row_part a k out stride row n = written out stride 0 (row * side k) (n * side k) (side k) (λ r c. frame_sample a k (row * side k + r) c)

-- and with the first n rows
unfoldable pub rows_part : Asked → Channel → List ℕ → ℕ → ℕ → List ℕ
rows_part a k out stride n = written out stride 0 0 (cols a * side k) (n * side k) (frame_sample a k)

-- ---- what is left of three planes: the first n macroblocks of a row written, and the first n rows
pub record RowWritten (a : Asked) (s : Strides) (row n : ℕ) (out out' : Planes) : Type 0 where
  pub y_is : out'.y ≡ row_part a luma out.y s.y row n
  pub u_is : out'.u ≡ row_part a chroma_u out.u s.u row n
  pub v_is : out'.v ≡ row_part a chroma_v out.v s.v row n

pub record RowsWritten (a : Asked) (s : Strides) (n : ℕ) (out out' : Planes) : Type 0 where
  pub y_is : out'.y ≡ rows_part a luma out.y s.y n
  pub u_is : out'.u ≡ rows_part a chroma_u out.u s.u n
  pub v_is : out'.v ≡ rows_part a chroma_v out.v s.v n
