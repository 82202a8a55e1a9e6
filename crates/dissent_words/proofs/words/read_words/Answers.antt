use Rattle.dissent_words.proofs.Requests.{no_command}
use Rattle.dissent_words.proofs.words.read_words.Goals as goal

pub returns-in_default-as_str-clause-exact : goal.returns-in_default-as_str-clause-exact
returns-in_default-as_str-clause-exact c = λ _. no_command c.args.words.now.items c.as_slice.result.now c.name-item.result _ c.as_str.result.now
    c.as_slice.ensures.value c.in-len1-up.len_at_least c.name-item.is c.as_str.ensures.value c.in_default-as_str.not-keygen c.in_default-as_str.not-roster
    c.in_default-as_str.not-show c.in_default-as_str.not-judge c.in_default-as_str.not-group c.in_default-as_str.not-make c.in_default-as_str.not-member
    c.in_default-as_str.not-live
