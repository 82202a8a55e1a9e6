use Rattle.key_store.proofs.steps.write_slot.Goals as goal

pub returns-clause-done : goal.returns-clause-done
returns-clause-done g c = λ done. simp c.numbers.ensures at (c.put.ensures.done done)
