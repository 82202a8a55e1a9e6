use Rattle.std.proofs.Common.{subst, sym, Result}
use Rattle.std.specs.Prelude.{IsOk}
use Rattle.wire_core.specs.declared.cursor.Short.{Short}
use Rattle.phase_message.specs.declared.header.Header.{Header}
use Rattle.phase_message.proofs.Fields.{is_header, header_ok-length, length-header_ok}
use Rattle.phase_message.proofs.header.read_header.Goals as goal

pub returns-clause-ok : goal.returns-clause-ok
returns-clause-ok c =
    let is = is_header c.args.content.now c.new-cursor.result c.fields.result _ c.new-cursor.ensures c.fields.ensures in (
      λ ok. header_ok-length c.args.content.now (subst (λ (r : Result Header Short). IsOk r) is ok),
      λ long. subst (λ (r : Result Header Short). IsOk r) (sym is) (length-header_ok c.args.content.now long),
    )
