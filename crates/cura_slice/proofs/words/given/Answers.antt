use Rattle.std.proofs.Common.{map, ◌∙◌, subst}
use Rattle.std.specs.Prelude.{string_bytes}
use Rattle.cura_slice.specs.Words.{IsWord}
use Rattle.cura_slice.proofs.Passed.{all_passed, one_more_string, strings_read, unreadable, first_unread}
use Rattle.cura_slice.proofs.words.given.Goals as goal

pub returns-in_default-clause-refused : goal.returns-in_default-clause-refused
returns-in_default-clause-refused g c =
    let told = g.L.CommandLine.words c.args.line.now in
    let l = c.loop-index in
    first_unread told (map string_bytes l.words.items) l.index c.in-Ok-Some.bytes l.invariant (subst (λ o. IsWord told l.index o) c.in-Ok-Some.field-0-is c.in-Ok-Some.ensures) (strings_read l.words.items)
    (unreadable c.as_str.result c.in-Ok-Some.bytes c.in_default.is c.as_str.ensures.valid)

pub returns-in-Ok-None-clause-words : goal.returns-in-Ok-None-clause-words
returns-in-Ok-None-clause-words g c =
    let told = g.L.CommandLine.words c.args.line.now in
    let l = c.loop-index in
    all_passed told (map string_bytes l.words.items) l.index l.invariant (subst (λ o. IsWord told l.index o) c.in-Ok-None.field-0-is c.in-Ok-None.ensures)

pub loop-index-preserved : goal.loop-index-preserved
loop-index-preserved g c =
    let told = g.L.CommandLine.words c.args.line.now in
    let l = c.loop-index in
    one_more_string told l.words.items c.push.new.self.items c.in-Ok.word c.in-Ok-Some.bytes l.index c.in-Ok-push.ensures.items (c.in-Ok.ensures.ok ∙ c.in-Some.ensures.bytes) l.invariant
    (subst (λ o. IsWord told l.index o) c.in-Ok-Some.field-0-is c.in-Ok-Some.ensures)
