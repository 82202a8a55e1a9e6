-- Spelling and reading descriptors undo each other.
use Rattle.std.proofs.Common.{◌≡◌, ℕ, ◌+◌, ◌*◌, ◌^◌, ◌<◌, ◌≤◌, Bool, true, false, cond, List, [], ◌++◌, take, drop, length, refl, sym, ap, subst, ◌∙◌, arith, append-nil, length-append, Some, None, ◌&&◌, ◌==◌}
use Rattle.std.specs.Prelude.{nat_le}
use Rattle.std.specs.List.{concat, list_all}
use Rattle.std.specs.Int.{w32, to_be_bytes, from_be_bytes}
use Rattle.std.proofs.lemmas.Bool.{and_parts, and_from, leb-true, le-leb, eqb-true, eq-eqb, cond-true, false_from_ne_true, both_ways}
use Rattle.std.proofs.lemmas.List.{take_at, drop_at, take-append-drop, length-drop, length-take-le, drop-drop, take_all}
use Rattle.std.proofs.lemmas.List.Elements.{All-from_recursion, recursion_from_All}
use Rattle.std.proofs.lemmas.List.Sums.{AllPass-from_list_all, list_all-from_AllPass}
use Rattle.std.proofs.lemmas.Nat.{be_bytes_4, from_be_bytes-to_be_bytes_4}
use Rattle.wire_core.specs.Bytes.{IsBytes}
use Rattle.wire_core.proofs.ByteLists.{IsBytes-take}
use Rattle.ring_encrypt.specs.Reduced.{is_reduced}
use Rattle.bulk_descriptor.specs.Descriptor.{Description, IsDescriptor, OfGrammar, descriptor_text, parts_of, length_in, capsules_in, is_descriptor, description_in, descriptor_read}
use Rattle.bulk_descriptor.specs.Laws.{DescriptorsAreSpelled, SpelledDescriptorsAreRead, SpellingDetermines}
use Rattle.bulk_descriptor.proofs.PartLemmas.{length-parts_of, concat-parts_of, parts_of-concat, length-concat, sizes-parts_of}

-- what the test of bytes says
pub record Passes (n : ℕ) (bytes : List ℕ) : Type 0 where
  pub least : 2 ≤ n
  pub most : n ≤ 16
  pub long : length bytes ≡ 36 + 2272 * n
  pub short : length_in bytes ≤ 65536
  pub reduced : list_all is_reduced (capsules_in n bytes) ≡ true

pub passes : (n : ℕ) (bytes : List ℕ) → is_descriptor n bytes ≡ true → Passes n bytes
unfolding is_descriptor
passes n bytes e =
    let four = and_parts (nat_le 2 n && nat_le n 16 && (length bytes == 36 + 2272 * n) && nat_le (length_in bytes) 65536)
    (list_all is_reduced (capsules_in n bytes)) e in
    let three = and_parts (nat_le 2 n && nat_le n 16 && (length bytes == 36 + 2272 * n)) (nat_le (length_in bytes) 65536) four.0 in
    let two = and_parts (nat_le 2 n && nat_le n 16) (length bytes == 36 + 2272 * n) three.0 in
    let one = and_parts (nat_le 2 n) (nat_le n 16) two.0 in
    record {
      least = leb-true 2 n one.0;
      most = leb-true n 16 one.1;
      long = eqb-true (length bytes) (36 + 2272 * n) two.1;
      short = leb-true (length_in bytes) 65536 three.1;
      reduced = four.1;
    }

pub passed : (n : ℕ) (bytes : List ℕ) → Passes n bytes → is_descriptor n bytes ≡ true
unfolding is_descriptor
passed n bytes p =
    let one = and_from (nat_le 2 n) (nat_le n 16) (le-leb 2 n p.least) (le-leb n 16 p.most) in
    let two = and_from (nat_le 2 n && nat_le n 16) (length bytes == 36 + 2272 * n) one (eq-eqb (length bytes) (36 + 2272 * n) p.long) in
    let three = and_from (nat_le 2 n && nat_le n 16 && (length bytes == 36 + 2272 * n)) (nat_le (length_in bytes) 65536) two
    (le-leb (length_in bytes) 65536 p.short) in
    and_from (nat_le 2 n && nat_le n 16 && (length bytes == 36 + 2272 * n) && nat_le (length_in bytes) 65536)
    (list_all is_reduced (capsules_in n bytes)) three p.reduced

-- what was read passed the test
read_cases : (b : Bool) (x d : Description) → cond b (Some x) None ≡ Some d → (b ≡ true) × (x ≡ d)
read_cases true x d e = (refl, cc)
read_cases false x d e = cc

pub read_passes : (n : ℕ) (bytes : List ℕ) (d : Description) → descriptor_read n bytes ≡ Some d → (is_descriptor n bytes ≡ true)
    × (description_in n bytes ≡ d)
read_passes n bytes d e = read_cases (is_descriptor n bytes) (description_in n bytes) d e

-- bytes that pass the test tell a descriptor of the grammar
pub in_grammar : (n : ℕ) (bytes : List ℕ) → Passes n bytes → OfGrammar n (description_in n bytes)
unfolding description_in
in_grammar n bytes p =
    let hashes = drop 36 bytes in
    let capsules = drop (36 + 32 * n) bytes in
    let long = p.long in
    let head : length (drop 4 bytes) + 4 ≡ length bytes = omega (arith, length-drop 4 bytes) in
    record {
      form = record {
        short = p.short;
        hash = length-take-le 32 (drop 4 bytes) (omega arith);
        least = rw (length-parts_of 32 n hashes) p.least;
        most = rw (length-parts_of 32 n hashes) p.most;
        as_many = length-parts_of 2240 n capsules ∙ sym (length-parts_of 32 n hashes);
        hashes = All-from_recursion (λ hash. length hash ≡ 32) (parts_of 32 n hashes)
            (sizes-parts_of 32 n hashes (omega (arith, length-drop 36 bytes)));
        sizes = All-from_recursion (λ capsule. length capsule ≡ 2240) (parts_of 2240 n capsules)
            (sizes-parts_of 2240 n capsules (omega (arith, length-drop (36 + 32 * n) bytes)));
        reduced = AllPass-from_list_all is_reduced (parts_of 2240 n capsules) p.reduced;
      };
      members = length-parts_of 32 n hashes;
    }

-- the parts of the bytes, put together
whole : (n : ℕ) (bytes : List ℕ) → take 4 bytes ++ (take 32 (drop 4 bytes) ++ (take (32 * n) (drop 36 bytes) ++ drop (36 + 32 * n) bytes)) ≡
    bytes
whole n bytes =
    let third : drop (36 + 32 * n) bytes ≡ drop (32 * n) (drop 36 bytes) = sym (drop-drop (32 * n) 36 bytes) in
    let second : drop 36 bytes ≡ drop 32 (drop 4 bytes) = sym (drop-drop 32 4 bytes) in
    rw (third, take-append-drop (32 * n) (drop 36 bytes), second, take-append-drop 32 (drop 4 bytes)) (take-append-drop 4 bytes)

-- and are its spelling
text_of-read : (n : ℕ) (bytes : List ℕ) → IsBytes bytes → Passes n bytes → descriptor_text (description_in n bytes) ≡ bytes
unfolding description_in
text_of-read n bytes are p =
    let long = p.long in
    let size : length (take 4 bytes) ≡ 4 = length-take-le 4 bytes (omega arith) in
    let number : to_be_bytes w32 (length_in bytes) ≡ take 4 bytes = be_bytes_4 (take 4 bytes) (length_in bytes) size
    (IsBytes-take 4 bytes are) refl in
    let n32 : 32 * n ≤ length (drop 36 bytes) = omega (arith, length-drop 36 bytes) in
    let n2240 : 2240 * n ≤ length (drop (36 + 32 * n) bytes) = omega (arith, length-drop (36 + 32 * n) bytes) in
    let end : length (drop (36 + 32 * n) bytes) ≤ 2240 * n = omega (arith, length-drop (36 + 32 * n) bytes) in
    let last : concat (capsules_in n bytes) ≡ drop (36 + 32 * n) bytes = concat-parts_of 2240 n (drop (36 + 32 * n) bytes) n2240
    ∙ take_all (2240 * n) (drop (36 + 32 * n) bytes) end in
    let hashes : concat (parts_of 32 n (drop 36 bytes)) ≡ take (32 * n) (drop 36 bytes) = concat-parts_of 32 n (drop 36 bytes) n32 in
    ap (λ (x : List ℕ). x ++ (take 32 (drop 4 bytes) ++ (concat (parts_of 32 n (drop 36 bytes)) ++ concat (capsules_in n bytes)))) number
    ∙ ap (λ (x : List ℕ). take 4 bytes ++ (take 32 (drop 4 bytes) ++ (x ++ concat (capsules_in n bytes)))) hashes
    ∙ ap (λ (x : List ℕ). take 4 bytes ++ (take 32 (drop 4 bytes) ++ (take (32 * n) (drop 36 bytes) ++ x))) last
    ∙ whole n bytes

pub descriptors_are_spelled : DescriptorsAreSpelled
descriptors_are_spelled n bytes d are e =
    let r = read_passes n bytes d e in
    let p = passes n bytes r.0 in
    subst (λ (d : Description). OfGrammar n d × (descriptor_text d ≡ bytes)) r.1 (in_grammar n bytes p, text_of-read n bytes are p)

-- ---- what is spelled is read

-- what a byte string is made of
record Spells (n : ℕ) (d : Description) (text : List ℕ) : Type 0 where
  pub long : length text ≡ 36 + 2272 * n
  pub number : length_in text ≡ d.length
  pub hash : take 32 (drop 4 text) ≡ d.message_hash
  pub hashes : parts_of 32 n (drop 36 text) ≡ d.pad_hashes
  pub capsules : capsules_in n text ≡ d.capsules

spells : (n : ℕ) (d : Description) → OfGrammar n d → Spells n d (descriptor_text d)
spells n d g =
    let head = to_be_bytes w32 d.length in
    let hashes = concat d.pad_hashes in
    let capsules = concat d.capsules in
    let form = g.form in
    let members = g.members in
    let small : d.length < 2 ^ 32 = omega (arith, form.short) in
    let hash_sizes = recursion_from_All (λ hash. length hash ≡ 32) d.pad_hashes form.hashes in
    let capsule_sizes = recursion_from_All (λ capsule. length capsule ≡ 2240) d.capsules form.sizes in
    let as_many : length d.capsules ≡ n = form.as_many ∙ members in
    let hashes_long : length hashes ≡ 32 * n = length-concat 32 d.pad_hashes hash_sizes ∙ ap (λ (k : ℕ). 32 * k) members in
    let capsules_long : length capsules ≡ 2240 * n = length-concat 2240 d.capsules capsule_sizes ∙ ap (λ (k : ℕ). 2240 * k) as_many in
    let hash_long : length d.message_hash ≡ 32 = form.hash in
    spells_parts n d head hashes capsules refl hash_long hashes_long capsules_long (from_be_bytes-to_be_bytes_4 d.length small)
    (parts_of-concat 32 n d.pad_hashes capsules members hash_sizes)
    (ap (parts_of 2240 n) (sym (append-nil capsules)) ∙ parts_of-concat 2240 n d.capsules [] as_many capsule_sizes)
  where
    spells_parts : (n : ℕ) (d : Description) (head hashes capsules : List ℕ) → length head ≡ 4 → length d.message_hash ≡ 32
        → length hashes ≡ 32 * n → length capsules ≡ 2240 * n
        → from_be_bytes w32 head ≡ d.length → parts_of 32 n (hashes ++ capsules) ≡ d.pad_hashes → parts_of 2240 n capsules ≡ d.capsules
        → Spells n d (head ++ (d.message_hash ++ (hashes ++ capsules)))
    spells_parts n d head hashes capsules four long hashes_long capsules_long number first second =
        let text = head ++ (d.message_hash ++ (hashes ++ capsules)) in
        let start : take 4 text ≡ head = take_at head (d.message_hash ++ (hashes ++ capsules)) 4 four in
        let after : drop 4 text ≡ d.message_hash ++ (hashes ++ capsules) = drop_at head (d.message_hash ++ (hashes ++ capsules)) 4 four in
        let rest : drop 36 text ≡ hashes ++ capsules = sym (drop-drop 32 4 text) ∙ ap (drop 32) after
        ∙ drop_at d.message_hash (hashes ++ capsules) 32 long in
        let last : drop (36 + 32 * n) text ≡ capsules = sym (drop-drop (32 * n) 36 text) ∙ ap (drop (32 * n)) rest
        ∙ drop_at hashes capsules (32 * n) hashes_long in
        record {
          long = omega (
            arith,
            length-append head (d.message_hash ++ (hashes ++ capsules)),
            length-append d.message_hash
                (hashes ++ capsules),
            length-append hashes capsules,
          );
          number = ap (from_be_bytes w32) start ∙ number;
          hash = ap (take 32) after ∙ take_at d.message_hash (hashes ++ capsules) 32 long;
          hashes = ap (parts_of 32 n) rest ∙ first;
          capsules = ap (parts_of 2240 n) last ∙ second;
        }

pub same_description : (d e : Description) → d.length ≡ e.length → d.message_hash ≡ e.message_hash → d.pad_hashes ≡ e.pad_hashes
    → d.capsules ≡ e.capsules → d ≡ e
same_description d e length hash hashes capsules = λ i. record {
  length = length i;
  message_hash = hash i;
  pad_hashes = hashes i;
  capsules =
      capsules i;
}

read_again : (b : Bool) (x d : Description) → b ≡ true → x ≡ d → cond b (Some x) None ≡ Some d
read_again b x d e same = cond-true b (Some x) None e ∙ ap (λ (d : Description). Some d) same

pub spelled_are_read : SpelledDescriptorsAreRead
unfolding description_in
spelled_are_read n d g =
    let text = descriptor_text d in
    let s = spells n d g in
    let form = g.form in
    let members = g.members in
    let test = passed n text (record {
      least = rw members at form.least;
      most = rw members at form.most;
      long = s.long;
      short = rw s.number form.short;
      reduced = ap (list_all is_reduced) s.capsules ∙ list_all-from_AllPass is_reduced d.capsules form.reduced;
    }) in
    read_again (is_descriptor n text) (description_in n text) d test
    (same_description (description_in n text) d s.number s.hash s.hashes s.capsules)

pub spelling_determines : SpellingDetermines
spelling_determines n d e g h same =
    let read : descriptor_read n (descriptor_text d) ≡ Some d = spelled_are_read n d g in
    let again : descriptor_read n (descriptor_text e) ≡ Some e = spelled_are_read n e h in
    let both : Some d ≡ Some e = sym read ∙ ap (descriptor_read n) same ∙ again in
    same_some d e both
  where
    same_some : (d e : Description) → Some d ≡ Some e → d ≡ e
    same_some d e both = cc

-- ---- the test of bytes, as the code makes it
pub not_passed : (n : ℕ) (bytes : List ℕ) → (Passes n bytes → ⊥) → false ≡ is_descriptor n bytes
not_passed n bytes h = sym (false_from_ne_true (is_descriptor n bytes) (λ e. h (passes n bytes e)))

pub passed_if_reduced : (n : ℕ) (bytes : List ℕ) (r : Bool) → 2 ≤ n → n ≤ 16 → length bytes ≡ 36 + 2272 * n → length_in bytes ≤ 65536
    → r ≡ list_all is_reduced (capsules_in n bytes) → r ≡ is_descriptor n bytes
passed_if_reduced n bytes true least most long short told = sym
    (passed n bytes (record { least = least; most = most; long = long; short = short; reduced = sym told }))
passed_if_reduced n bytes false least most long short told = not_passed n bytes (λ p. both_ways false refl (told ∙ p.reduced))

-- what the code makes of bytes that pass
pub description_is : (n : ℕ) (bytes hash hashes capsules : List ℕ) (number : ℕ) (made read : List (List ℕ)) → number ≡ length_in bytes
    → hash ≡ take 32 (drop 4 bytes) → made ≡ parts_of 32 n hashes → hashes ≡ drop 36 bytes
    → read ≡ parts_of 2240 n capsules → capsules ≡ drop (32 * n) hashes
    → record { length = number; message_hash = hash; pad_hashes = made; capsules = read } ≡ description_in n bytes
unfolding description_in
description_is n bytes hash hashes capsules number made read is-number is-hash is-made is-hashes is-read is-capsules =
    let last : capsules ≡ drop (36 + 32 * n) bytes = is-capsules ∙ ap (drop (32 * n)) is-hashes ∙ drop-drop (32 * n) 36 bytes in
    same_description (record { length = number; message_hash = hash; pad_hashes = made; capsules = read }) (description_in n bytes)
    is-number is-hash (is-made ∙ ap (parts_of 32 n) is-hashes) (is-read ∙ ap (parts_of 2240 n) last)

-- so what it makes has the form of a descriptor
pub form_of : (n : ℕ) (bytes : List ℕ) (d : Description) → is_descriptor n bytes ≡ true → d ≡ description_in n bytes
    → IsDescriptor d.length d.message_hash d.pad_hashes d.capsules
form_of n bytes d e same = subst (λ (d : Description). IsDescriptor d.length d.message_hash d.pad_hashes d.capsules) (sym same)
    (in_grammar n bytes (passes n bytes e)).form

pub read_if_passed : (n : ℕ) (bytes : List ℕ) (d : Description) → is_descriptor n bytes ≡ true → d ≡ description_in n bytes
    → Some d ≡ descriptor_read n bytes
read_if_passed n bytes d e same = ap (λ (d : Description). Some d) same
    ∙ sym (cond-true (is_descriptor n bytes) (Some (description_in n bytes)) None e)

pub members_of-read : (n : ℕ) (bytes : List ℕ) (d : Description) → Some d ≡ descriptor_read n bytes → length d.pad_hashes ≡ n
members_of-read n bytes d e =
    let r = read_passes n bytes d (sym e) in
    ap (λ (d : Description). length d.pad_hashes) (sym r.1) ∙ (in_grammar n bytes (passes n bytes r.0)).members
