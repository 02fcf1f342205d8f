-- The test of a node over its log says of each transaction that its flags are what the log says.
use Rattle.qs_world_refine.proofs.Words.{◌≡◌, inl, inr, ◌&&◌, ◌||◌, not, Bool, true, false, List, [], ◌∷◌, Option, Some, None, is_some, refl, sym, ap, subst, ◌∙◌, arith, list_all, list_any, lookup, is_at, Ordering, Less, Equal, Greater, nat_tests, tid_cmp, Tid, Prepared, Untold, Recovery, is_untold_of, InLog, Participant, NodeValue, no_flags, flags_at, IsSaid, AreSaid, in_order, same_flag, has_doubt, or_right, or_left}
use Rattle.qs_tm.specs.Manager as tm
use Rattle.qs_world_refine.specs.SaidLaws.{SaidSeen, SeenSaid}
use Rattle.qs_world_refine.specs.Sound.{is_logged, is_known_vote, is_known_commit}
use Rattle.qs_world_refine.proofs.Doubts.{is_doubt_of}
use Rattle.qs_world_refine.proofs.Forgetting.{none_behind}
use Rattle.qs_world_refine.proofs.SoundKnown.{same_is}
use Rattle.qs_world_refine.proofs.SoundParts.{and_both, both_and, all_found}
use Rattle.qs_world_refine.proofs.SoundViews.{seen}

flag_is : (a b : Bool) → same_flag a b ≡ true → a ≡ b
flag_is true b is = sym is
flag_is false true is = absurd (cc (is))
flag_is false false is = refl

is_flag : (a b : Bool) → a ≡ b → same_flag a b ≡ true
is_flag true b is = sym is
is_flag false b is = by b is
  where
    by : (b : Bool) → false ≡ b → not b ≡ true
    by true is = absurd (cc (is))
    by false is = refl

-- ---- from the test

module _ (node : NodeValue) (tid : Tid) (unknown : tm.part_of tid node.manager ≡ None) where
  -- nothing in doubt is of a transaction that is not known
  not_known : (u : Tid) → u ≡ tid → tm.knows u node.manager ≡ true → ⊥
  not_known u same knows = let none : tm.knows tid node.manager ≡ false = ap (λ (o : Option Participant). is_some o) unknown in let some : tm.knows tid node.manager ≡ true = subst (λ (t : Tid). tm.knows t node.manager ≡ true) same knows in cc (none, some)

  no_vote : (votes : List Prepared) → list_all (is_known_vote node) votes ≡ true → list_any (is_doubt_of tid) votes ≡ false
  no_vote [] all = refl
  no_vote (v ∷ votes) all = by (is_doubt_of tid v) refl (no_vote votes (and_both (is_known_vote node v) (list_all (is_known_vote node) votes) all).1)
    where
      known : (c k : Bool) → (c || k) ≡ true → not c ≡ true → k ≡ true
      known true k is off = absurd (cc (off))
      known false k is off = is

      by : (b : Bool) → is_doubt_of tid v ≡ b → list_any (is_doubt_of tid) votes ≡ false → (b || list_any (is_doubt_of tid) votes) ≡ false
      by false is more = more
      by true is more =
          let both : (Rattle.qs_restart.specs.Recovery.is_of tid v ≡ true) × (not v.committed ≡ true) = and_both (Rattle.qs_restart.specs.Recovery.is_of tid v) (not v.committed) is in
          absurd (not_known v.tid (same_is v.tid tid both.0) (known v.committed (tm.knows v.tid node.manager) (and_both (is_known_vote node v) (list_all (is_known_vote node) votes) all).0 both.1))

  no_commit : (commits : List Untold) → list_all (is_known_commit node) commits ≡ true → list_any (is_untold_of tid) commits ≡ false
  no_commit [] all = refl
  no_commit (c ∷ commits) all = by (is_untold_of tid c) refl (no_commit commits (and_both (is_known_commit node c) (list_all (is_known_commit node) commits) all).1)
    where
      by : (b : Bool) → is_untold_of tid c ≡ b → list_any (is_untold_of tid) commits ≡ false → (b || list_any (is_untold_of tid) commits) ≡ false
      by false is more = more
      by true is more = absurd (not_known c.tid (same_is c.tid tid is) (and_both (is_known_commit node c) (list_all (is_known_commit node) commits) all).0)

pub said_seen : SaidSeen
said_seen node said sound is tid = by (tm.part_of tid node.manager) refl
  where
    tests : (list_all (is_logged said) node.manager.known ≡ true) × ((list_all (is_known_vote node) said.prepared && list_all (is_known_commit node) said.untold) ≡ true)
    tests = and_both (list_all (is_logged said) node.manager.known) _ is

    logs : (list_all (is_known_vote node) said.prepared ≡ true) × (list_all (is_known_commit node) said.untold ≡ true)
    logs = and_both (list_all (is_known_vote node) said.prepared) (list_all (is_known_commit node) said.untold) tests.1

    found : (o : Option Participant) → tm.part_of tid node.manager ≡ o → flags_at tid node ≡ (elim o [ None ↦ no_flags | Some part ↦ part.log ])
    found o known = ap (λ (o : Option Participant). elim o [ None ↦ no_flags | Some part ↦ part.log ]) known

    by : (o : Option Participant) → tm.part_of tid node.manager ≡ o → IsSaid node said tid
    by (Some part) known =
        let both : (same_flag part.log.prepared (has_doubt tid said) ≡ true) × (same_flag part.log.listed (list_any (is_untold_of tid) said.untold) ≡ true) = and_both (same_flag part.log.prepared (has_doubt tid said)) _ (all_found tid (is_logged said) node.manager.known part known tests.0) in
        record { prepared = ap (λ (f : InLog). f.prepared) (found (Some part) known) ∙ flag_is part.log.prepared (has_doubt tid said) both.0; listed = ap (λ (f : InLog). f.listed) (found (Some part) known) ∙ flag_is part.log.listed (list_any (is_untold_of tid) said.untold) both.1 }
    by None none = record { prepared = ap (λ (f : InLog). f.prepared) (found None none) ∙ sym (no_vote node tid none said.prepared logs.0); listed = ap (λ (f : InLog). f.listed) (found None none) ∙ sym (no_commit node tid none said.untold logs.1) }

-- ---- to the test

-- what holds of each transaction that is found holds of each entry
pub each_found : (q : Tid × Participant → Bool) (es : List (Tid × Participant)) → in_order es ≡ true → ((tid : Tid) (part : Participant) → lookup (is_at (tid_cmp tid)) es ≡ Some part → q (tid, part) ≡ true) → list_all q es ≡ true
each_found q [] ordered each = refl
each_found q (e ∷ es) ordered each = both_and (q e) (list_all q es) (each e.0 e.1 (rw (self e.0) refl)) (each_found q es (rest_ordered es ordered) (λ tid part found. each tid part (later tid part found)))
  where
    self : (t : Tid) → tid_cmp t t ≡ Equal
    self t = grind (arith, nat_tests)

    rest_ordered : (es : List (Tid × Participant)) → in_order (e ∷ es) ≡ true → in_order es ≡ true
    rest_ordered [] ordered = refl
    rest_ordered (next ∷ rest) ordered = (and_both _ (in_order (next ∷ rest)) ordered).1

    later : (tid : Tid) (part : Participant) → lookup (is_at (tid_cmp tid)) es ≡ Some part → lookup (is_at (tid_cmp tid)) (e ∷ es) ≡ Some part
    later tid part found = by (tid_cmp tid e.0) refl
      where
        never : lookup (is_at (tid_cmp tid)) es ≡ None → ⊥
        never none = cc (none, found)

        by : (r : Ordering) → tid_cmp tid e.0 ≡ r → lookup (is_at (tid_cmp tid)) (e ∷ es) ≡ Some part
        by Less is = absurd (never (none_behind tid e es ordered (inr is)))
        by Equal is = absurd (never (none_behind tid e es ordered (inl is)))
        by Greater is = rw is found

module _ (node : NodeValue) (said : Recovery) (all : AreSaid node said) where
  -- a flag that stands is of a transaction that is known
  flag_known : (tid : Tid) (flag : InLog → Bool) → flag no_flags ≡ false → flag (flags_at tid node) ≡ true → tm.knows tid node.manager ≡ true
  flag_known tid flag none stands = by (tm.part_of tid node.manager) refl
    where
      by : (o : Option Participant) → tm.part_of tid node.manager ≡ o → is_some o ≡ true
      by (Some part) known = refl
      by None unknown = absurd (let off : flag (flags_at tid node) ≡ false = ap (λ (o : Option Participant). flag (elim o [ None ↦ no_flags | Some part ↦ part.log ])) unknown ∙ none in cc (off, stands))

  known_votes : (votes : List Prepared) → ((tid : Tid) → list_any (is_doubt_of tid) votes ≡ true → tm.knows tid node.manager ≡ true) → list_all (is_known_vote node) votes ≡ true
  known_votes [] each = refl
  known_votes (v ∷ votes) each = both_and (is_known_vote node v) (list_all (is_known_vote node) votes) (by v.committed refl) (known_votes votes (λ tid some. each tid (or_right (is_doubt_of tid v) (list_any (is_doubt_of tid) votes) some)))
    where
      first : (a b c : Bool) → a ≡ true → c ≡ false → ((a && not c) || b) ≡ true
      first a b c is off = rw (is, off) refl

      by : (c : Bool) → v.committed ≡ c → (c || tm.knows v.tid node.manager) ≡ true
      by true is = refl
      by false is = each v.tid (first (Rattle.qs_restart.specs.Recovery.is_of v.tid v) (list_any (is_doubt_of v.tid) votes) v.committed (grind (arith, nat_tests)) is)

  known_commits : (commits : List Untold) → ((tid : Tid) → list_any (is_untold_of tid) commits ≡ true → tm.knows tid node.manager ≡ true) → list_all (is_known_commit node) commits ≡ true
  known_commits [] each = refl
  known_commits (c ∷ commits) each = both_and (is_known_commit node c) (list_all (is_known_commit node) commits) (each c.tid (or_left (is_untold_of c.tid c) (list_any (is_untold_of c.tid) commits) (grind (arith, nat_tests)))) (known_commits commits (λ tid some. each tid (or_right (is_untold_of tid c) (list_any (is_untold_of tid) commits) some)))

pub seen_said : SeenSaid
seen_said node said sound all = both_and (list_all (is_logged said) node.manager.known) (list_all (is_known_vote node) said.prepared && list_all (is_known_commit node) said.untold)
    (each_found (is_logged said) node.manager.known (seen node sound).ordered logged)
    (both_and (list_all (is_known_vote node) said.prepared) (list_all (is_known_commit node) said.untold)
    (known_votes node said all said.prepared (λ tid some. flag_known node said all tid (λ f. f.prepared) refl ((all tid).prepared ∙ some)))
    (known_commits node said all said.untold (λ tid some. flag_known node said all tid (λ f. f.listed) refl ((all tid).listed ∙ some))))
  where
    logged : (tid : Tid) (part : Participant) → lookup (is_at (tid_cmp tid)) node.manager.known ≡ Some part → is_logged said (tid, part) ≡ true
    logged tid part known =
        let flags : flags_at tid node ≡ part.log = ap (λ (o : Option Participant). elim o [ None ↦ no_flags | Some p ↦ p.log ]) known in
        both_and (same_flag part.log.prepared (has_doubt tid said)) (same_flag part.log.listed (list_any (is_untold_of tid) said.untold))
        (is_flag part.log.prepared (has_doubt tid said) (sym (ap (λ (f : InLog). f.prepared) flags) ∙ (all tid).prepared)) (is_flag part.log.listed (list_any (is_untold_of tid) said.untold) (sym (ap (λ (f : InLog). f.listed) flags) ∙ (all tid).listed))
