use Rattle.std.proofs.Common.{[], rules, arith}
use Rattle.lines.proofs.Fields.{fields_length}
use Rattle.lines.proofs.+joined.Goals as goal

pub joined-requires : goal.joined-requires
joined-requires t c = (search rules, omega (arith, fields_length c.args.fields.now [] c.in-len1-up.len_at_least))
