-- A node that opens over a log knows of it what the log keeps.
use Rattle.std.proofs.Common.{◌≡◌, ℕ, ◌+◌, ◌≤◌, arith, Bool, true, false, List, [], ◌∷◌, ◌++◌, map, Option, Some, refl, sym, subst, ◌∙◌, fold}
use Rattle.std.specs.List.{filter, list_all, list_any}
use Rattle.qs_base.specs.declared.identifiers.Outcome.TheVariants as outcomes
use Rattle.qs_base.specs.declared.identifiers.Tid.{Tid}
use Rattle.qs_restart.specs.Recovery.{Prepared, Recovery, Untold, commit_of, is_in_doubt, is_of, is_untold_of, names_transaction, prepare_of, recovery}
use Rattle.qs_node_step.specs.Opening.{new_manager, take_up}
use Rattle.qs_tm.specs.Manager as tm
use Rattle.qs_tm.specs.declared.participant.Participant.{Participant}
use Rattle.qs_node_room.specs.Kept.{kept_at, kept_of}
use Rattle.qs_node_room.specs.Fits.{Agrees, IsEnough}
use Rattle.qs_node_room.specs.Opens.{EachOpens, is_named_commit, is_named_vote}
use Rattle.qs_node_room.proofs.Opened.{Shape, all_taken, has_list, taken_same}
use Rattle.qs_node_room.proofs.Lists.{all_kept, all_less, both_of, neither}
use Rattle.qs_node_room.proofs.Linked.{Link, Linked, is_marked_of, log_linked, untold_at, voted_at}

module _ (keep extra : ℕ) (enough : IsEnough keep extra) where
  -- ---- a node

  -- of what no Commit is to be told, each vote is in doubt
  doubts : (t : Tid) (votes : List Prepared) → list_all is_named_vote votes ≡ true → list_any (is_marked_of t) votes ≡ false → list_any (is_of t) (filter is_in_doubt votes) ≡ list_any (is_of t) votes
  doubts t [] named none = refl
  doubts t (vote ∷ votes) named none =
      let n = both_of (is_named_vote vote) (list_all is_named_vote votes) named in
      let m = neither (is_marked_of t vote) (list_any (is_marked_of t) votes) none in
      by (is_of t vote) refl vote.committed refl n.0 m.0 (doubts t votes n.1 m.1)
    where
      named_of : vote.committed ≡ false → is_named_vote vote ≡ true → names_transaction vote.tid ≡ true
      named_of has name = sym (rw has refl) ∙ name

      out : (c d : Bool) → names_transaction vote.tid ≡ c → vote.committed ≡ d → is_of t vote ≡ false → list_any (is_of t) (filter is_in_doubt votes) ≡ list_any (is_of t) votes → list_any (is_of t) (filter is_in_doubt (vote ∷ votes)) ≡ list_any (is_of t) (vote ∷ votes)
      out true true name has is more = rw (name, has, is) more
      out true false name has is more = rw (name, has, is) more
      out false d name has is more = rw (name, is) more

      by : (b : Bool) → is_of t vote ≡ b → (c : Bool) → vote.committed ≡ c → is_named_vote vote ≡ true → is_marked_of t vote ≡ false → list_any (is_of t) (filter is_in_doubt votes) ≡ list_any (is_of t) votes → list_any (is_of t) (filter is_in_doubt (vote ∷ votes)) ≡ list_any (is_of t) (vote ∷ votes)
      by true is true has name none more = absurd (let bad : is_marked_of t vote ≡ true = rw (is, has) refl in cc (bad, none))
      by true is false has name none more = let found : names_transaction vote.tid ≡ true = named_of has name in rw (found, has, is) refl
      by false is c has name none more = out (names_transaction vote.tid) c refl has is more

  least_keep : (k e : ℕ) → (41 + e + 31) + (41 + e + 15) ≤ k → 41 + e + 15 ≤ k
  least_keep k e h = grind (arith)

  agreed : (u d : Bool) (o : Option Participant) (bytes : Option ℕ) → Shape u d o → Link keep extra enough u d bytes → Agrees keep extra o bytes
  agreed true d o bytes s l = let p = s.2 in subst (λ (x : Option Participant). Agrees keep extra x bytes) (sym s.1) (record {
    prepared = λ e. absurd (let no_vote : s.0.log.prepared ≡ false = p.prepared in cc (e, no_vote));
    listed = λ e. p.unended;
    fresh = λ e. absurd (let done : s.0.outcome ≡ Some outcomes.Commit = p.outcome in cc (sym e ∙ done));
    held = λ e none. absurd (let done : s.0.outcome ≡ Some outcomes.Commit = p.outcome in cc (sym none ∙ done));
    none = λ e. absurd (let un : s.0.log.unended ≡ true = p.unended in cc (e, un));
    some = λ e. l;
    whole = λ e none. absurd (let has : s.0.log.listed ≡ true = p.listed in cc (none, has));
  })
  agreed false true o bytes s l = let p = s.2 in subst (λ (x : Option Participant). Agrees keep extra x bytes) (sym s.1) (record {
    prepared = λ e. p.unended;
    listed = λ e. absurd (let none : s.0.log.listed ≡ false = p.listed in cc (e, none));
    fresh = λ e. p.listed;
    held = λ e none. p.involved;
    none = λ e. absurd (let un : s.0.log.unended ≡ true = p.unended in cc (e, un));
    some = λ e. (keep, l, least_keep keep extra enough);
    whole = λ e none. l;
  })
  agreed false false o bytes s l = subst (λ (x : Option Participant). Agrees keep extra x bytes) (sym s) l

  shaped : (u d c : Bool) (o : Option Participant) → (u ≡ false → d ≡ c) → Shape u d o → Shape u c o
  shaped true d c o same s = s
  shaped false d c o same s = subst (λ (b : Bool). Shape false b o) (same refl) s

pub each_opens : EachOpens
each_opens alloc setting log kept enough short named =
    let n = both_of (list_all is_named_vote said.prepared) (list_all is_named_commit said.untold) named in
    let linked : Linked setting.keep setting.extra enough said (kept_of setting.keep setting.extra log) = log_linked setting.keep setting.extra enough log short in
    let same : filter is_named_commit said.untold ≡ said.untold = all_kept is_named_commit said.untold n.1 in
    let taken = all_taken (filter is_in_doubt said.prepared) (filter is_named_commit said.untold) (new_manager alloc setting) refl (all_less has_list is_named_commit said.untold linked.lists) in
    let kept_same = taken_same (map prepare_of (filter is_in_doubt said.prepared) ++ map commit_of (filter is_named_commit said.untold)) (new_manager alloc setting) in
    record {
      keep_is = refl;
      extra_is = refl;
      keep_too = kept_same.0;
      extra_too = kept_same.1;
      known = taken.0;
      rising = linked.rising;
      parts = λ t. agreed setting.keep setting.extra enough (untold_at t said) (voted_at t said) _ (kept_at t (kept_of setting.keep setting.extra log))
          (shaped setting.keep setting.extra enough (untold_at t said) (list_any (is_of t) (filter is_in_doubt said.prepared)) (voted_at t said) _ (λ none. doubts setting.keep setting.extra enough t said.prepared n.0 (linked.marked t none))
          (subst (λ (x : List Untold). Shape (list_any (is_untold_of t) x) (list_any (is_of t) (filter is_in_doubt said.prepared)) (tm.part_of t (fold take_up (new_manager alloc setting) (map prepare_of (filter is_in_doubt said.prepared) ++ map commit_of (filter is_named_commit said.untold))))) same (taken.1 t)))
          (linked.each t);
    }
  where
    said : Recovery
    said = recovery log
