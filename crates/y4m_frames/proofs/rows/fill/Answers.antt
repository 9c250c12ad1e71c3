-- What `y4m_frames::rows::fill` leaves: n times b laid over the output.
use Rattle.std.proofs.Common.{◌≡◌, ℕ, ◌+◌, ◌-◌, sym, ap, ◌∙◌, arith, length, take, drop, replicate, length-take, length-drop}
use Rattle.std.proofs.lemmas.Slice.{put_mid-paste}
use Rattle.rfc6386.specs.Raster.{tab}
use Rattle.rfc6386.proofs.Laws.Raster.{length-tab}
use Rattle.y4m_frames.proofs.Puts.{paste-put, tab-same}
use Rattle.y4m_frames.proofs.rows.fill.Goals as goal

pub returns : goal.returns
returns c =
    let a = c.args in
    let l = tab a.n (λ i. a.b) in
    let long = sym (length-tab a.n (λ i. a.b)) in
    let part = take (a.at + a.n - a.at) (drop a.at a.out.now) in
    let n : length part ≡ a.n = omega (arith, length-take (a.at + a.n - a.at) (drop a.at a.out.now), length-drop a.at a.out.now) in
    put_mid-paste a.at _ a.out.now _ l a.n (c.fill.ensures.after (λ y h. h) ∙ ap (λ (m : ℕ). replicate m a.b) n ∙ tab-same a.n a.b) (omega arith) long
    ∙ paste-put a.out.now a.at l a.n long
