use Rattle.std.proofs.Common.{Some, None, ap, ◌∙◌, lit<}
use Rattle.std.proofs.lemmas.Str.Pattern.{split_parts}
use Rattle.script.specs.Fields.{words_of}
use Rattle.script.proofs.Spaces.{whole, divided}
use Rattle.script.proofs.fields.cut.Goals as goal

pub returns-in-Some : goal.returns-in-Some
returns-in-Some c =
    let parts = split_parts 32 c.args.text.now (Some (c.in-Some.word, c.in-Some.rest)) c.in-Some.ensures.cases (lit< tt) in
    ap words_of parts.0 ∙ divided c.in-Some.word.now c.in-Some.rest.now parts.1

pub returns-in-None : goal.returns-in-None
returns-in-None c = whole c.args.text.now (split_parts 32 c.args.text.now None c.in-None.ensures.cases (lit< tt))
