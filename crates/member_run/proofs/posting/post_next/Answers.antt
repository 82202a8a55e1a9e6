use Rattle.std.proofs.Common.{refl, inl, inr, sym, ap, ◌∙◌, ℕ, arith, List, Vec, Global}
use Rattle.std.specs.Prelude.{option_map}
use Rattle.member_run.specs.declared.run_end.RunEnd.TheVariants.{LinkFault, OutOfMemory}
use Rattle.round_spec.specs.Result.{posts_of}
use Rattle.member_run.proofs.Ending.{failed-unmade, hindered, memory-unmade, rose-since}
use Rattle.member_run.proofs.Going.{posted}
use Rattle.member_run.proofs.Handing.{fewer-left, next-due, none-left, one-handed}
use Rattle.member_run.proofs.posting.post_next.Goals as goal

abbrev bytes_of : Vec ℕ Global → List ℕ
bytes_of bytes = bytes.items

pub returns-in_default-clause-err : goal.returns-in_default-clause-err
returns-in_default-clause-err g c = λ b frames most going.
    hindered _ b frames c.args.member.now c.next_post.new.self _ _ OutOfMemory going most refl refl (omega arith) refl tt tt
    (λ d e is. inr (refl, c.in_default.ensures.stopped refl))

pub returns-in_default-next-clause-none : goal.returns-in_default-next-clause-none
returns-in_default-next-clause-none g c = λ e.
    none-left c.args.member.now c.next_post.new.self c.in-Ok.next bytes_of c.in_default-next.is c.in-Ok.ensures.post c.in-Ok.ensures.room
    c.in-Ok.ensures.handed

pub returns-in-Done-clause-goes_on : goal.returns-in-Done-clause-goes_on
returns-in-Done-clause-goes_on g c = λ b frames going.
    posted _ b frames c.args.member.now c.next_post.new.self _ _ c.in-Some.post.items going c.in-Done.ensures.made c.in-Done.ensures.frames
    c.in-Done.ensures.ends c.in-Done.ensures.no_fall
    (one-handed c.args.member.now c.next_post.new.self c.in-Some.post (rw c.in-Some.is at c.in-Ok.ensures.handed)) c.in-Ok.ensures.plain_member
    (λ d e is. next-due (posts_of d e) c.args.member.now.holds.handed c.in-Some.post.items
    (sym (ap (option_map bytes_of) c.in-Some.is) ∙ c.in-Ok.ensures.plain is.start d e is.stands is.plain))

pub returns-in-Done-clause-one : goal.returns-in-Done-clause-one
returns-in-Done-clause-one g c = λ e.
    fewer-left c.args.member.now c.next_post.new.self c.in-Some.post c.in-Some.post.items
    (sym (ap (option_map bytes_of) c.in-Some.is) ∙ c.in-Ok.ensures.post) (rw c.in-Some.is at c.in-Ok.ensures.handed)

pub returns-in-Failed-clause-err : goal.returns-in-Failed-clause-err
returns-in-Failed-clause-err g c = λ b frames most going.
    hindered _ b frames c.args.member.now c.next_post.new.self _ _ LinkFault going most c.in-Failed.ensures.frames c.in-Failed.ensures.ends
    c.in-Failed.ensures.no_fall (failed-unmade _ _ c.in-Some.post.items c.in-Failed.ensures.made) tt
    (rose-since b.link.faults _ _ going.faults (c.in-Failed.ensures.failed refl))
    (λ d e is. inl (c.in-Ok.ensures.plain_member d e is))

pub returns-clause-err : goal.returns-clause-err
returns-clause-err g c = λ b frames most going.
    hindered _ b frames c.args.member.now c.next_post.new.self _ _ OutOfMemory going most c.in-OutOfMemory.ensures.frames
    c.in-OutOfMemory.ensures.ends c.in-OutOfMemory.ensures.no_fall (memory-unmade _ _ c.in-Some.post.items c.in-OutOfMemory.ensures.made) tt tt
    (λ d e is. inl (c.in-Ok.ensures.plain_member d e is))
