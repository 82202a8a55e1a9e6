use Rattle.std.proofs.Common.{◌≡◌, ℕ, ◌+◌, ◌*◌, List, length, refl, ap, ◌∙◌, arith}
use Rattle.std.proofs.lemmas.Result.{err_from_is_err_and}
use Rattle.phase_message.specs.Shape.{Shape}
use Rattle.bulk_descriptor.specs.Descriptor.{descriptor_text}
use Rattle.bulk_descriptor.specs.Fields.{description_of}
use Rattle.shuffle_blame.specs.Asked.{past_of}
use Rattle.round_spec.specs.Slots.{bulk_place, keys_said}
use Rattle.round_spec.specs.Say.{Configuration, own_description}
use Rattle.honest_say.specs.Own.{AreBulkSecrets}
use Rattle.honest_say.specs.Seats.{IsSeatOf}
use Rattle.closing_verdict.specs.Carried.{AreKeysOf}
use Rattle.member_spec.specs.Replies.{Replies}
use Rattle.member_parts.specs.Secrets.{AreSecretsOf}
use Rattle.member_core.proofs.Belonging.{carried-keys, carries-first, held-is, keys-here, not-missing, seeds-count, shape-is}
use Rattle.member_core.proofs.Describing.{own-hashes, text-long}
use Rattle.member_core.proofs.machine.Machine.descriptor_due.Goals as goal

pub unreachable-requires : goal.unreachable-requires
unreachable-requires g c =
    let m = c.args.self.now in
    let none = carries-first m.log m.stage m.keys c.in_default.is c.requires.ready.keys in
    omega (arith, none, c.requires.behind)

pub unreachable-unreachable : goal.unreachable-unreachable
unreachable-unreachable g c = c.unreachable.type_inv

pub unreachable-requires-in_default-bulk : goal.unreachable-requires-in_default-bulk
unreachable-requires-in_default-bulk g c = not-missing c.args.self.now.secrets.bulk c.requires.held c.in_default-bulk.is

pub unreachable-unreachable-in_default-bulk : goal.unreachable-unreachable-in_default-bulk
unreachable-unreachable-in_default-bulk g c = c.unreachable-in_default-bulk.type_inv

pub make_descriptor-requires-clause-keys : goal.make_descriptor-requires-clause-keys
make_descriptor-requires-clause-keys g c =
    let m = c.args.self.now in
    let keys : AreKeysOf m.log c.in-Some.keys = carried-keys m.log m.stage m.keys c.in-Some.keys c.in-Some.is c.requires.ready.keys in
    let members = ap (λ (s : Shape). s.members) c.requires.formed.shape in
    let same = ap (λ (k : List (List ℕ)). length k) c.items.ensures in
    omega (arith, c.items.result.now.ok.0, same, keys.counts.bulk_keys, members)

pub make_descriptor-requires-clause-seeds : goal.make_descriptor-requires-clause-seeds
make_descriptor-requires-clause-seeds g c =
    let m = c.args.self.now in
    seeds-count m c.in-Some-bulk.bulk c.requires.formed c.in-Some-bulk.is ∙ ap (λ (s : Shape). s.members) c.requires.formed.shape

pub make_descriptor-requires-clause-short : goal.make_descriptor-requires-clause-short
make_descriptor-requires-clause-short g c =
    let same = ap (λ (t : List ℕ). length t) (c.deref.ensures.value ∙ c.items-message.ensures) in
    let short = c.requires.formed.message in
    omega (arith, same, short)

pub same-own_pad : goal.same-own_pad
same-own_pad g c = refl

pub returns : goal.returns
returns g c =
    let m = c.args.self.now in
    let replies : Replies = g.C.Conduct.replies c.args.conduct.now in
    let past : List (List ℕ) = past_of m.log m.stage in
    let keys = keys-here m.log m.stage c.in-Some.keys (carried-keys m.log m.stage m.keys c.in-Some.keys c.in-Some.is c.requires.ready.keys)
    c.requires.behind c.requires.ready.past in
    let bulk : (config : Configuration) → AreSecretsOf config m.secrets → AreBulkSecrets config c.in-Some-bulk.bulk = λ config secrets.
    held-is m.secrets.bulk c.in-Some-bulk.bulk (AreBulkSecrets config) c.in-Some-bulk.is secrets.bulk in
    let own : (config : Configuration) → IsSeatOf config m.seat → AreSecretsOf config m.secrets → m.message ≡ config.message
    → description_of c.in_ok-made.made.descriptor ≡ own_description config past = λ config seat secrets message.
    c.in_ok-made.ensures.descriptor config past seat (bulk config secrets)
    (c.deref.ensures.value ∙ c.items-message.ensures ∙ message)
    (c.items.ensures ∙ keys.bulk ∙ ap (λ (s : Shape). keys_said s past bulk_place) (shape-is config m c.requires.formed seat)) in
    let many : length c.in_ok-descriptor.descriptor.pad_hashes ≡ m.log.shape.members = c.in_ok-descriptor.ensures.members
    ∙ own-hashes m (description_of c.in_ok-made.made.descriptor) c.requires.formed
    (λ config is. own config is.seat is.secrets is.message) in
    record {
      long = ap (λ (t : List ℕ). length t) (c.of.ensures ∙ c.in_ok-bytes.ensures.value)
          ∙ text-long (length c.in_ok-descriptor.descriptor.pad_hashes) (description_of c.in_ok-descriptor.descriptor)
          c.in_ok-bytes.ensures.grammar
          ∙ ap (λ (n : ℕ). 36 + 2272 * n) many;
      told = λ config seat secrets message. c.of.ensures ∙ c.in_ok-bytes.ensures.value
          ∙ ap descriptor_text (c.in_ok-descriptor.ensures.told ∙ ap replies.descriptor (own config seat secrets message));
      pad = λ config seat secrets message. c.in_ok-made.ensures.pad config seat (bulk config secrets)
          (c.deref.ensures.value ∙ c.items-message.ensures ∙ message);
      then = λ config seat secrets message. c.in_ok-descriptor.ensures.then ∙ ap replies.speech_after (own config seat secrets message);
    }

pub returns-in_err-made : goal.returns-in_err-made
returns-in_err-made g c =
    let p = err_from_is_err_and c.from_residual.result c.from_residual.ensures.1 in
    record {
      long = rw p.1 tt;
      told = rw p.1 tt;
      pad = rw p.1 tt;
      then = rw p.1 tt;
    }

pub returns-in_err-descriptor : goal.returns-in_err-descriptor
returns-in_err-descriptor g c =
    let p = err_from_is_err_and c.from_residual-in_err-descriptor.result c.from_residual-in_err-descriptor.ensures.1 in
    record {
      long = rw p.1 tt;
      told = rw p.1 tt;
      pad = rw p.1 tt;
      then = rw p.1 tt;
    }

pub returns-in_err-bytes : goal.returns-in_err-bytes
returns-in_err-bytes g c =
    let p = err_from_is_err_and c.from_residual-in_err-bytes.result c.from_residual-in_err-bytes.ensures.1 in
    record {
      long = rw p.1 tt;
      told = rw p.1 tt;
      pad = rw p.1 tt;
      then = rw p.1 tt;
    }
