use Rattle.std.proofs.Common.{ℕ, List}
use Rattle.shuffle_blame.specs.Asked.{past_of}
use Rattle.honest_say.proofs.Members.{column-count, column-said}
use Rattle.honest_say.proofs.group_keys.GroupKeys.said.Goals as goal

pub returns-clause-value : goal.returns-clause-value
returns-clause-value c =
    let log = c.args.log.now in
    let past : List (List ℕ) = past_of log c.args.stage in
    let inner_a = column-said log.shape past c.deref.result.now c.in_ok-rows.rows.items 0 c.in_ok-inner_a.inner_a c.in_ok-inner_a.ensures
    c.deref.ensures.value c.in_ok-rows.ensures.value in
    let outer_a = column-said log.shape past c.deref-2.result.now c.in_ok-rows.rows.items 1 c.in_ok-outer_a.outer_a c.in_ok-outer_a.ensures
    c.deref-2.ensures.value c.in_ok-rows.ensures.value in
    let bulk = column-said log.shape past c.deref-3.result.now c.in_ok-rows.rows.items 2 c.in_ok-bulk.bulk c.in_ok-bulk.ensures
    c.deref-3.ensures.value c.in_ok-rows.ensures.value in
    let inner_b = column-said log.shape past c.deref-4.result.now c.in_ok-rows.rows.items 3 c.in_ok-inner_b.inner_b c.in_ok-inner_b.ensures
    c.deref-4.ensures.value c.in_ok-rows.ensures.value in
    let outer_b = column-said log.shape past c.deref-5.result.now c.in_ok-rows.rows.items 4 c.in_ok-outer_b.outer_b c.in_ok-outer_b.ensures
    c.deref-5.ensures.value c.in_ok-rows.ensures.value in
    record { first = record { inner = inner_a; outer = outer_a }; bulk = bulk; second = record { inner = inner_b; outer = outer_b } }

pub returns-clause-counts : goal.returns-clause-counts
returns-clause-counts c =
    let log = c.args.log.now in
    let past : List (List ℕ) = past_of log c.args.stage in
    let inner_a = column-said log.shape past c.deref.result.now c.in_ok-rows.rows.items 0 c.in_ok-inner_a.inner_a c.in_ok-inner_a.ensures
    c.deref.ensures.value c.in_ok-rows.ensures.value in
    let outer_a = column-said log.shape past c.deref-2.result.now c.in_ok-rows.rows.items 1 c.in_ok-outer_a.outer_a c.in_ok-outer_a.ensures
    c.deref-2.ensures.value c.in_ok-rows.ensures.value in
    let bulk = column-said log.shape past c.deref-3.result.now c.in_ok-rows.rows.items 2 c.in_ok-bulk.bulk c.in_ok-bulk.ensures
    c.deref-3.ensures.value c.in_ok-rows.ensures.value in
    let inner_b = column-said log.shape past c.deref-4.result.now c.in_ok-rows.rows.items 3 c.in_ok-inner_b.inner_b c.in_ok-inner_b.ensures
    c.deref-4.ensures.value c.in_ok-rows.ensures.value in
    let outer_b = column-said log.shape past c.deref-5.result.now c.in_ok-rows.rows.items 4 c.in_ok-outer_b.outer_b c.in_ok-outer_b.ensures
    c.deref-5.ensures.value c.in_ok-rows.ensures.value in
    record {
      inner_a = column-count log.shape past 0 c.in_ok-inner_a.inner_a inner_a;
      outer_a = column-count log.shape past 1 c.in_ok-outer_a.outer_a outer_a;
      bulk_keys = column-count log.shape past 2 c.in_ok-bulk.bulk bulk;
      inner_b = column-count log.shape past 3 c.in_ok-inner_b.inner_b inner_b;
      outer_b = column-count log.shape past 4 c.in_ok-outer_b.outer_b outer_b;
    }
