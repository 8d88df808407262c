use Rattle.std.proofs.Common.{◌∷◌, length, get_or, drop, ap, ◌∙◌, arith}
use Rattle.std.specs.List.{flat_map}
use Rattle.sheet.specs.Format.{le16, variable_bytes, record_bytes}
use Rattle.sheet.proofs.Rows.{three}
use Rattle.sheet.proofs.laying.Tables.write.Goals as goal

pub returns : goal.returns
returns c =
    let vs = c.args.self.now.variables.now in
    let rs = c.args.self.now.records.now in
    three (1 ∷ length vs ∷ le16 (length rs)) (flat_map variable_bytes vs) (flat_map record_bytes rs) c.args.out.now _ _ _ _ _
    (omega arith) c.put-at.ensures.end c.put_rows-at.ensures.end
    (c.put-at.ensures.after ∙ ap (λ l. 1 ∷ length vs ∷ get_or l 0 0 ∷ get_or l 1 0 ∷ drop 4 c.args.out.now) c.to_le_bytes.ensures)
    c.put_rows-at.ensures.after c.put_rows.ensures.after
