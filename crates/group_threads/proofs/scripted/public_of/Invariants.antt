use Rattle.std.proofs.Common.{◌≡◌, map, take}
use Rattle.lms_tree.specs.Secret.{own_public}
use Rattle.lms_tree.specs.States.{SecretState}
use Rattle.lms_tree.specs.Tree.{key_bytes}
use Rattle.group_threads.proofs.scripted.public_of.Given as goal

abbrev pub invariant-loop-key : goal.invariant-loop-key
invariant-loop-key l = l.public.items ≡ map (λ (key : SecretState). key_bytes (own_public key.parts)) (take l.key-index l.keys.items)
