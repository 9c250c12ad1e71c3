-- What `y4m_header::header_line::tell_line` hears: the mark, and then word by word.
use Rattle.std.proofs.Common.{◌≡◌, refl, sym, ap, ◌∙◌, suc, [], ◌∷◌, ◌++◌, length, nat_eq, arith, rules, tests}
use lib.Pointwise.{pointwise}
use borrow.Author.Tests.{not-true, not-false}
use Rattle.std.proofs.lemmas.List.{length_push}
use Rattle.std.proofs.lemmas.Iterator.Consumers.{YieldsList-turn, YieldsList-end}
use Rattle.y4m_header.proofs.Laws.{unmarked, heard_none, heard_more, heard_bad, heard_all, words_yielded, after_first}
use Rattle.y4m_header.proofs.header_line.tell_line.Goals as goal

pub returns-then-ne : goal.returns-then-ne
returns-then-ne c =
    let e = words_yielded c.next.new.self c.next.result c.args.line.now c.next.ensures.steps c.split-words.ensures.rest c.split-words.ensures.done c.split-words.ensures.closure (λ x b q k. search (rules, tests)) in
    let first = YieldsList-turn e [] _ refl _ _ c.in_ok-next.field-0 c.in_ok-next.was c.next.ensures.steps in
    unmarked _ _ first.0 first.1 (ap (pointwise nat_eq c.in_ok-next.field-0.now) (sym c.as_slice.ensures) ∙ not-true _ (sym c.if-ne.ensures))

pub loop-word-init : goal.loop-word-init
loop-word-init c =
    let e = words_yielded c.next.new.self c.next.result c.args.line.now c.next.ensures.steps c.split-words.ensures.rest c.split-words.ensures.done c.split-words.ensures.closure (λ x b q k. search (rules, tests)) in
    let first = YieldsList-turn e [] _ refl _ _ c.in_ok-next.field-0 c.in_ok-next.was c.next.ensures.steps in
    heard_none _ _ first.0 first.1 (ap (pointwise nat_eq c.in_ok-next.field-0.now) (sym c.as_slice.ensures) ∙ not-false _ (sym c.if-ne.ensures))

pub loop-word-preserved : goal.loop-word-preserved
loop-word-preserved c =
    let l = c.loop-word in
    let e = words_yielded c.next.new.self c.next.result c.args.line.now c.next.ensures.steps c.split-words.ensures.rest c.split-words.ensures.done c.split-words.ensures.closure (λ x b q k. search (rules, tests)) in
    let on = after_first e c.in_ok-next.field-0 _ _ c.in_ok-next.ensures.steps c.into_iter-word-iterator.ensures.into_iter_gives l.yielded l.word-iterator l.yielded_by in
    let turn = YieldsList-turn e (c.in_ok-next.field-0 ∷ l.yielded) l.word-iterator on _ _ c.in-Some.word c.in-Some.is c.next-in-loop-word.ensures.steps in
    let n : length (l.yielded ++ c.in-Some.word ∷ []) ≡ suc (length l.yielded) = omega (arith, length_push l.yielded c.in-Some.word) in
    rw n (heard_more _ _ _ _ _ turn.0 turn.1 c.in_ok-told.ensures l.invariant)

pub returns-in_err-told : goal.returns-in_err-told
returns-in_err-told c =
    let l = c.loop-word in
    let e = words_yielded c.next.new.self c.next.result c.args.line.now c.next.ensures.steps c.split-words.ensures.rest c.split-words.ensures.done c.split-words.ensures.closure (λ x b q k. search (rules, tests)) in
    let on = after_first e c.in_ok-next.field-0 _ _ c.in_ok-next.ensures.steps c.into_iter-word-iterator.ensures.into_iter_gives l.yielded l.word-iterator l.yielded_by in
    let turn = YieldsList-turn e (c.in_ok-next.field-0 ∷ l.yielded) l.word-iterator on _ _ c.in-Some.word c.in-Some.is c.next-in-loop-word.ensures.steps in
    rw c.from_residual-in_err-told.ensures (heard_bad _ _ _ _ turn.0 turn.1 c.in_err-told.ensures l.invariant)

pub returns : goal.returns
returns c =
    let l = c.loop-word in
    let e = words_yielded c.next.new.self c.next.result c.args.line.now c.next.ensures.steps c.split-words.ensures.rest c.split-words.ensures.done c.split-words.ensures.closure (λ x b q k. search (rules, tests)) in
    let on = after_first e c.in_ok-next.field-0 _ _ c.in_ok-next.ensures.steps c.into_iter-word-iterator.ensures.into_iter_gives l.yielded l.word-iterator l.yielded_by in
    let end = YieldsList-end e (c.in_ok-next.field-0 ∷ l.yielded) l.word-iterator on _ _ c.in-None.is c.next-in-loop-word.ensures.steps in
    heard_all _ _ _ end.1 l.invariant
