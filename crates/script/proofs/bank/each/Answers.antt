use Rattle.std.proofs.Common.{length, drop, vec_items, sym, ap, ◌∙◌, arith}
use Rattle.std.proofs.lemmas.Iterator.Consumers.{YieldsList-turn, YieldsList-end}
use Rattle.std.proofs.lemmas.List.{length_push}
use Rattle.script.specs.Commands.{each}
use Rattle.script.specs.Fields.{words_of}
use Rattle.script.proofs.Limits.{front, split_words, each_more, each_stuck, each_all}
use Rattle.script.proofs.bank.each.Goals as goal

pub returns-in-None-field : goal.returns-in-None-field
returns-in-None-field c =
    let split = c.split-word-items.ensures in
    let t = YieldsList-turn (split_words c.args.text.now c.into_iter-word-iterator.ensures.into_iter_gives split.text split.has_more split.pattern) c.loop-word.yielded _ c.loop-word.yielded_by _ _ c.in-Some.word c.in-Some.is c.next.ensures.steps in
    each_stuck _ _ _ c.loop-word.invariant _ t.0 t.1 c.in-None-field.ensures.value

pub loop-word-preserved : goal.loop-word-preserved
loop-word-preserved c =
    let split = c.split-word-items.ensures in
    let t = YieldsList-turn (split_words c.args.text.now c.into_iter-word-iterator.ensures.into_iter_gives split.text split.has_more split.pattern) c.loop-word.yielded _ c.loop-word.yielded_by _ _ c.in-Some.word c.in-Some.is c.next.ensures.steps in
    each_more _ _ _ c.loop-word.invariant _ _ _ t.0 t.1 c.in-Some-field.ensures.value c.in_ok-push-in-Some-field.ensures.items
    ∙ sym (ap (λ k. front (vec_items c.push.new.self) (each (drop k (words_of c.args.text.now)))) (length_push c.loop-word.yielded c.in-Some.word))

pub returns : goal.returns
returns c =
    let split = c.split-word-items.ensures in
    let t = YieldsList-end (split_words c.args.text.now c.into_iter-word-iterator.ensures.into_iter_gives split.text split.has_more split.pattern) c.loop-word.yielded _ c.loop-word.yielded_by _ _ c.in-None.is c.next.ensures.steps in
    each_all _ (words_of c.args.text.now) (length c.loop-word.yielded) c.loop-word.invariant (omega (arith, t.1))
