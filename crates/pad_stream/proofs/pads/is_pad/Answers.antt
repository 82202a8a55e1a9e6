use Rattle.std.proofs.Common.{[], ◌∷◌, length, ap, ◌∙◌, List, ℕ}
use Rattle.std.proofs.lemmas.Bool.{eqb-true}
use Rattle.wire_core.specs.declared.tag.Tag.TheVariants.{PadStream}
use Rattle.wire_core.specs.Hash.{hash_of}
use Rattle.pad_stream.proofs.StreamLemmas.{length-bytes_from}
use Rattle.pad_stream.proofs.pads.is_pad.Goals as goal

-- bytes of another length are not the pad
pub returns-else-sent-length : goal.returns-else-sent-length
returns-else-sent-length c = (
  λ same. absurd (c.if-sent-length.false (eqb-true _ _ same)),
  λ is. absurd (c.if-sent-length.false (ap (λ (bytes : List ℕ). length bytes) is
      ∙ length-bytes_from (hash_of PadStream (c.args.seed.now ∷ [])) 0 c.args.length)),
)
