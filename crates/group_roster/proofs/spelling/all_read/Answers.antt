use Rattle.std.proofs.Common.{◌≡◌, ◌∙◌, [], refl, sym, arith, below_more}
use Rattle.std.proofs.lemmas.List.Elements.{All-from_get_or}
use Rattle.group_roster.specs.Roster.{IsKey}
use Rattle.group_roster.proofs.Keys.{key_reads}
use Rattle.group_roster.proofs.spelling.all_read.Goals as goal

pub loop-key-preserved : goal.loop-key-preserved
loop-key-preserved c =
    let i = c.loop-key.key-index in
    below_more _ i c.loop-key.invariant (record {
      size = c.told-keys i c.loop-key-test.true;
      reads = key_reads c.read.result
          c.read.ensures.value c.is_err.result c.is_err.ensures.value c.if-is_err.false;
    })

pub returns : goal.returns
returns c = (
  λ _. All-from_get_or IsKey c.args.keys.now [] (λ i lt. c.loop-key.invariant i (omega arith)),
  λ _. refl,
)
