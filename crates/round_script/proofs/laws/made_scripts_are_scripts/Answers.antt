use Rattle.round_script.proofs.MadeLemmas.{made_is}
use Rattle.round_script.proofs.laws.made_scripts_are_scripts.Goals as goal

pub returns : goal.returns
returns c = λ number members size fault _ least most short. made_is number members size fault least most short
