use Rattle.std.proofs.lemmas.Bool.{false≢true}
use Rattle.group_roster.proofs.TomlLemmas.{document-ok, document-err}
use Rattle.toml.specs.View.{table_view}
use Rattle.group_roster.proofs.toml_form.document.Goals as goal

pub returns-in-Ok : goal.returns-in-Ok
returns-in-Ok c = document-ok c.args.bytes.now (table_view c.in-Ok.top) c.in-Ok.ensures.ok.0 c.in-Ok.ensures.ok.1

pub returns-else-is_memory : goal.returns-else-is_memory
returns-else-is_memory c =
    rw c.of.ensures (document-err c.args.bytes.now (c.in-Err.ensures.refused (λ k. false≢true (c.if-is_memory.ensures.1 k))))
