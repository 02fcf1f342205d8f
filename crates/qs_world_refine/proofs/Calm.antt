-- What holds of a node between its steps holds of it once its first step began.
use Rattle.qs_world_refine.proofs.Words.{◌≡◌, ◌≤◌, ◌==◌, ◌&&◌, ◌||◌, not, Bool, true, false, List, [], ◌∷◌, Option, Some, None, is_some, is_none, refl, sym, ap, subst, ◌∙◌, if◌then◌else◌, list_all, lookup, is_at, tid_cmp, Tid, names_transaction, is_undecided, Participant, was_committed, NodeValue, Work, part_of, work_on, no_flags, began_here, is_past_commit, is_sound, is_past, is_kept_part, keeps_commits, is_owned, is_owned_label, keeps_owned, in_order, begun, are_queues_apart, and_parts}
use Rattle.qs_base.specs.declared.identifiers.Outcome.TheVariants as outcomes
use Rattle.qs_engage.specs.declared.engage.Engage.{Engage}
use Rattle.qs_node_kept.specs.declared.kept.KeptLabel.{KeptLabel}
use Rattle.qs_node_kept.specs.Keeping.{KeepingValue}
use Rattle.qs_tm.specs.Manager as tm
use Rattle.qs_world_refine.specs.Steady.{IsSteadyNode}
use Rattle.qs_world_refine.proofs.BeginKeeps.{KeptOn, begin_keeps, core_of, core_found}
use Rattle.qs_world_refine.proofs.SaysSeen.{each_found}
use Rattle.qs_world_refine.proofs.SoundRestart.{begin_incarnation_sound}
use Rattle.qs_world_refine.proofs.SoundParts.{all_found}
use Rattle.qs_world_refine.proofs.SoundViews.{seen}
use Rattle.qs_base_lemmas.proofs.Tests.{some_same}

-- two participants that differ in what their servers and their log have alone
pub record SameCore (part other : Participant) : Type 0 where
  pub engage : other.engage ≡ part.engage
  pub outcome : other.outcome ≡ part.outcome
  pub involved : other.involved ≡ part.involved
  pub blocked : other.blocked ≡ part.blocked
  pub tell : other.tell ≡ part.tell
  pub acknowledged : other.acknowledged ≡ part.acknowledged
  pub waiting : other.waiting ≡ part.waiting

same_core : (part other : Participant) → core_of other ≡ core_of part → SameCore part other
same_core part other same = record {
  engage = ap (λ (p : Participant). p.engage) whole;
  outcome = ap (λ (p : Participant). p.outcome) whole;
  involved = ap (λ (p : Participant). p.involved) whole;
  blocked = ap (λ (p : Participant). p.blocked) whole;
  tell = ap (λ (p : Participant). p.tell) whole;
  acknowledged = ap (λ (p : Participant). p.acknowledged) whole;
  waiting = ap (λ (p : Participant). p.waiting) whole;
}
  where
    whole : record other { members = []; log = no_flags } ≡ record part { members = []; log = no_flags }
    whole = some_same same

module _ (work new : Work) (on : KeptOn work new) where
  -- it knew what it knows
  pub known_before : (t : Tid) (other : Participant) → part_of t new ≡ Some other → (part : Participant) × ((part_of t work ≡ Some part) × SameCore part other)
  known_before t other known = by (part_of t work) refl
    where
      by : (o : Option Participant) → part_of t work ≡ o → (part : Participant) × ((part_of t work ≡ Some part) × SameCore part other)
      by (Some part) was = (part, (was, same_core part other (sym (ap core_found known) ∙ (on.core t ∙ ap core_found was))))
      by None none = absurd (let both : core_of other ≡ None = sym (ap core_found known) ∙ (on.core t ∙ ap core_found none) in cc (both))

  pub unknown_before : (t : Tid) → part_of t new ≡ None → part_of t work ≡ None
  unknown_before t none = by (part_of t work) refl
    where
      by : (o : Option Participant) → part_of t work ≡ o → o ≡ None
      by None was = refl
      by (Some part) was = absurd (let both : core_of part ≡ None = sym (ap core_found was) ∙ (sym (on.core t) ∙ ap core_found none) in cc (both))

  pub unknown_still : (t : Tid) → part_of t work ≡ None → part_of t new ≡ None
  unknown_still t none = by (part_of t new) refl
    where
      by : (o : Option Participant) → part_of t new ≡ o → o ≡ None
      by None was = refl
      by (Some part) was = absurd (let both : core_of part ≡ None = sym (ap core_found was) ∙ (on.core t ∙ ap core_found none) in cc (both))

  pub committed_same : (t : Tid) → was_committed t new.node ≡ was_committed t work.node
  committed_same t = rw (on.kept, on.committed) refl

  pub began_same : (t : Tid) → began_here new.node t ≡ began_here work.node t
  began_same t = rw on.setting refl

  pub past_commit_same : (t : Tid) → is_past_commit new.node t ≡ is_past_commit work.node t
  past_commit_same t = rw (began_same t, committed_same t, on.committed) refl

  knows_same : (t : Tid) → tm.knows t new.node.manager ≡ tm.knows t work.node.manager
  knows_same t = sym (some_core (part_of t new)) ∙ (ap (λ (o : Option Participant). is_some o) (on.core t) ∙ some_core (part_of t work))
    where
      some_core : (o : Option Participant) → is_some (core_found o) ≡ is_some o
      some_core None = refl
      some_core (Some part) = refl

  pub past_same : (t : Tid) → is_past new.node t ≡ is_past work.node t
  past_same t = rw (began_same t, committed_same t, knows_same t) refl

  -- what its clients own
  owned_same : (label : KeptLabel) → is_owned_label new.node label ≡ is_owned_label work.node label
  owned_same label = by label.tid
    where
      open_in : Option Participant → Bool
      open_in o = elim o [ None ↦ false | Some part ↦ part.engage.home && is_undecided part ]

      runs : (o : Option Participant) → open_in (core_found o) ≡ open_in o
      runs None = refl
      runs (Some part) = refl

      told_same : (t : Tid) → tm.told_of t false (λ part. part.engage.home && is_undecided part) new.node.manager ≡ tm.told_of t false (λ part. part.engage.home && is_undecided part) work.node.manager
      told_same t = sym (runs (part_of t new)) ∙ (ap open_in (on.core t) ∙ runs (part_of t work))

      at : (t : Tid) → is_owned new.node t ≡ is_owned work.node t
      at t = rw (on.kept, told_same t) refl

      by : (o : Option Tid) → (not (is_some label.owner) || (elim o [ None ↦ true | Some t ↦ is_owned new.node t ])) ≡ (not (is_some label.owner) || (elim o [ None ↦ true | Some t ↦ is_owned work.node t ]))
      by None = refl
      by (Some t) = ap (λ (b : Bool). not (is_some label.owner) || b) (at t)

  pub owned_still : keeps_owned work.node ≡ true → keeps_owned new.node ≡ true
  owned_still owned = subst (λ (k : KeepingValue). list_all (is_owned_label new.node) k.now.labels ≡ true) (sym on.kept) (each work.node.kept.now.labels owned)
    where
      both : {a b : Bool} → a ≡ true → b ≡ true → (a && b) ≡ true
      both x y = rw (x, y) refl

      each : (labels : List KeptLabel) → list_all (is_owned_label work.node) labels ≡ true → list_all (is_owned_label new.node) labels ≡ true
      each [] all = refl
      each (label ∷ rest) all = let its = and_parts (is_owned_label work.node label) (list_all (is_owned_label work.node) rest) all in both (owned_same label ∙ its.0) (each rest its.1)

  pub commits_still : in_order new.node.manager.known ≡ true → keeps_commits work.node ≡ true → keeps_commits new.node ≡ true
  commits_still ordered kept = each_found (is_kept_part new.node) new.node.manager.known ordered each
    where
      each : (t : Tid) (other : Participant) → lookup (is_at (tid_cmp t)) new.node.manager.known ≡ Some other → is_kept_part new.node (t, other) ≡ true
      each t other known = let was = known_before t other known in
          rw (began_same t, was.1.1.outcome, committed_same t) (all_found t (is_kept_part work.node) work.node.manager.known was.0 was.1.0 kept)

-- ---- of the node as its step begins

pub record IsCalm (work : Work) : Type 0 where
  pub owned : keeps_owned work.node ≡ true
  pub commits : keeps_commits work.node ≡ true
  pub queues : are_queues_apart work.node.queues ≡ true
  pub unknown : part_of (tm.next_tid work.node.manager) work ≡ None
  pub past : (t : Tid) → began_here work.node t ≡ true → names_transaction t ≡ true → t.seq ≤ work.node.manager.begun → is_past work.node t ≡ true
  pub decided : (t : Tid) (part : Participant) → part_of t work ≡ Some part → part.engage.home ≡ true → part.outcome ≡ Some outcomes.Commit → is_past_commit work.node t ≡ true

pub calm : (node : NodeValue) (free : Rattle.std.proofs.Common.ℕ) → is_sound node ≡ true → IsSteadyNode node → IsCalm (begun node free)
calm node free sound steady = record {
  owned = owned_still before after on steady.owned;
  commits = commits_still before after on (seen after.node (begin_incarnation_sound before sound)).ordered steady.commits;
  queues = rw on.queues steady.queues;
  unknown = subst (λ (u : Tid). part_of u after ≡ None) (sym on.next) (unknown_still before after on (tm.next_tid node.manager) steady.unknown);
  past = λ t began numbered below. past_same before after on t ∙ steady.past t (sym (began_same before after on t) ∙ began) numbered (subst (λ k. t.seq ≤ k) on.begun below);
  decided = λ t part known home committed. let was = known_before before after on t part known in
      past_commit_same before after on t ∙ steady.decided t was.0 was.1.0 (sym (ap (λ (e : Engage). e.home) was.1.1.engage) ∙ home) (sym was.1.1.outcome ∙ committed);
}
  where
    before : Work
    before = work_on node free

    after : Work
    after = begun node free

    on : KeptOn before after
    on = begin_keeps before
