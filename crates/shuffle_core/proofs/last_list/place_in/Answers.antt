use Rattle.std.proofs.Common.{rules, tests}
use Rattle.std.specs.Str.{bytes_eq}
use Rattle.std.proofs.lemmas.Iterator.{YieldsList-from_slice}
use Rattle.std.proofs.lemmas.Iterator.Search.{position_from_yields_List}
use Rattle.shuffle_core.proofs.last_list.place_in.Goals as goal

pub returns-clause-value : goal.returns-clause-value
returns-clause-value c =
    position_from_yields_List (λ other. bytes_eq other c.args.ct.now) _ _ c.position.result c.position.ensures.ran
    (YieldsList-from_slice c.args.list.now cc) (λ x b q k. search (rules, tests))
