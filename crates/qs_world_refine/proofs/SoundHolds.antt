-- A rule that changes one participant several times: what it knows of it stands from change to change.
use Rattle.qs_world_refine.proofs.Words.{◌≡◌, ◌&&◌, not, Bool, true, false, Option, Some, None, refl, sym, ap, ◌∙◌, lookup, is_at, tid_cmp, Tid, is_undecided, Manager, Participant, NodeValue, is_sound, is_sound_part, not-true}
use Rattle.qs_tm.specs.Manager as tm
use Rattle.qs_world_refine.proofs.Maps.{lookup_changed, changed_none}
use Rattle.qs_world_refine.proofs.SoundParts.{and_both, all_found, part_sound}
use Rattle.qs_world_refine.proofs.SoundViews.{PartSound, is_apart, seen, part_seen, part_as}

-- what is told of a participant after a change
pub told_with : {A : Type 0} (tid : Tid) (x : A) (g : Participant → A) (f : Participant → Participant) (m : Manager) → tm.told_of tid x g (tm.with_part tid f m) ≡ tm.told_of tid x (λ p. g (f p)) m
told_with {A} tid x g f m = by (tm.part_of tid m) refl
  where
    told : (Participant → A) → Option Participant → A
    told k o = elim o [ None ↦ x | Some p ↦ k p ]

    by : (o : Option Participant) → tm.part_of tid m ≡ o → tm.told_of tid x g (tm.with_part tid f m) ≡ tm.told_of tid x (λ p. g (f p)) m
    by None none = ap (told g) (ap (lookup (is_at (tid_cmp tid))) (changed_none (is_at (tid_cmp tid)) f m.known none) ∙ none) ∙ sym (ap (told (λ p. g (f p))) none)
    by (Some p) known = ap (told g) (lookup_changed (is_at (tid_cmp tid)) f m.known p known) ∙ sym (ap (told (λ p. g (f p))) known)

-- the node is sound, and the participant is known, and such
abbrev pub Holds : (Participant → Bool) → Tid → NodeValue → Type 0
Holds g tid node = (is_sound node ≡ true) × (tm.told_of tid false g node.manager ≡ true)

pub told_part : (g : Participant → Bool) (tid : Tid) (m : Manager) (part : Participant) → tm.part_of tid m ≡ Some part → tm.told_of tid false g m ≡ true → g part ≡ true
told_part g tid m part known is = sym (ap (λ (o : Option Participant). elim o [ None ↦ false | Some p ↦ g p ]) known) ∙ is

pub told_as : (g : Participant → Bool) (tid : Tid) (m : Manager) (part : Participant) → tm.part_of tid m ≡ Some part → g part ≡ true → tm.told_of tid false g m ≡ true
told_as g tid m part known is = ap (λ (o : Option Participant). elim o [ None ↦ false | Some p ↦ g p ]) known ∙ is

pub known_sound : (tid : Tid) (node : NodeValue) (part : Participant) → tm.part_of tid node.manager ≡ Some part → is_sound node ≡ true → PartSound node tid part
known_sound tid node part known sound = part_seen node tid part (all_found tid (is_sound_part node) node.manager.known part known (seen node sound).parts)

-- less is known
pub holds_less : (g h : Participant → Bool) (tid : Tid) → ((part : Participant) → g part ≡ true → h part ≡ true) → (node : NodeValue) → Holds g tid node → Holds h tid node
holds_less g h tid more node holds = (holds.0, by (tm.part_of tid node.manager) holds.1)
  where
    by : (o : Option Participant) → ◌≡◌ {A = Bool} (elim o [ None ↦ false | Some p ↦ g p ]) true → ◌≡◌ {A = Bool} (elim o [ None ↦ false | Some p ↦ h p ]) true
    by None is = is
    by (Some part) is = more part is

-- from such a participant to such a one
module _ (g h : Participant → Bool) (tid : Tid) (f : Participant → Participant) (node : NodeValue) where
  pub holds_step : ((part : Participant) → g part ≡ true → PartSound node tid part → ((f part).outcome ≡ part.outcome) × ((h (f part) ≡ true) × PartSound node tid (f part)))
      → Holds g tid node → Holds h tid (record node { manager = tm.with_part tid f node.manager })
  holds_step each holds = by (tm.part_of tid node.manager) refl
    where
      by : (o : Option Participant) → tm.part_of tid node.manager ≡ o → Holds h tid (record node { manager = tm.with_part tid f node.manager })
      by None none =
          let never : tm.told_of tid false g node.manager ≡ false = ap (λ (o : Option Participant). elim o [ None ↦ false | Some p ↦ g p ]) none in
          let is : tm.told_of tid false g node.manager ≡ true = holds.1 in
          absurd (cc (never, is))
      by (Some part) known =
          let more = each part (told_part g tid node.manager part known holds.1) (known_sound tid node part known holds.0) in
          (part_sound tid f node part known more.0 (part_as node tid (f part) more.1.1) holds.0, told_as h tid (tm.with_part tid f node.manager) (f part) (lookup_changed (is_at (tid_cmp tid)) f node.manager.known part known) more.1.0)

-- a change that keeps each participant sound
pub part_step : (tid : Tid) (f : Participant → Participant) (node : NodeValue) → ((part : Participant) → PartSound node tid part → ((f part).outcome ≡ part.outcome) × PartSound node tid (f part))
    → is_sound node ≡ true → is_sound (record node { manager = tm.with_part tid f node.manager }) ≡ true
part_step tid f node each sound = by (tm.part_of tid node.manager) refl
  where
    by : (o : Option Participant) → tm.part_of tid node.manager ≡ o → is_sound (record node { manager = tm.with_part tid f node.manager }) ≡ true
    by None none = rw (changed_none (is_at (tid_cmp tid)) f node.manager.known none) sound
    by (Some part) known =
        let more = each part (known_sound tid node part known sound) in
        part_sound tid f node part known more.0 (part_as node tid (f part) more.1) sound

-- ---- at its home, decided, or engaged

abbrev pub is_held : Participant → Bool
is_held part = not (is_apart part)

pub held_is : (part : Participant) → is_held part ≡ true → is_apart part ≡ false
held_is part is = not-true (is_apart part) is

pub held_as : (part : Participant) → is_apart part ≡ false → is_held part ≡ true
held_as part is = ap (λ (b : Bool). not b) is

-- and not decided
abbrev pub is_open : Participant → Bool
is_open part = is_undecided part && is_held part

pub open_held : (part : Participant) → is_open part ≡ true → is_apart part ≡ false
open_held part is = held_is part (and_both (is_undecided part) (is_held part) is).1
