-- Votes and Commits leave the log room for what it keeps.
use Rattle.std.proofs.Common.{◌≡◌, ℕ, ◌+◌, ◌-◌, ◌≤◌, ◌==◌, arith, Bool, true, false, not, List, [], ◌∷◌, ◌++◌, length, Option, Some, None, refl, sym, ap, subst, ◌∙◌, ◌⊎◌, inl, inr, fold, if◌then◌else◌}
use Rattle.std.proofs.lemmas.Bool.Decides.{nat_tests}
use Rattle.std.specs.Prelude.{nat_lt, suc}
use Rattle.std.specs.Map.{set_value}
use Rattle.std.specs.BTreeMap.{insert_entry, is_at}
use Rattle.qs_base.specs.Order.{tid_cmp}
use Rattle.qs_base.specs.declared.identifiers.NodeNo.{NodeNo}
use Rattle.qs_base.specs.declared.identifiers.Outcome.TheVariants as outcomes
use Rattle.qs_base.specs.declared.identifiers.ServerNo.{ServerNo}
use Rattle.qs_base.specs.declared.identifiers.Tid.{Tid}
use Rattle.qs_engage.specs.Nodes.{all_nodes, has_node, listed, with_listed}
use Rattle.qs_engage.specs.declared.nodes.Nodes.{Nodes}
use Rattle.qs_ops.specs.declared.operation.Op.{Op}
use Rattle.qs_record.specs.declared.record.Record.{Record}
use Rattle.qs_record.specs.declared.record.Record.TheVariants as records
use Rattle.qs_node_step.specs.Bringing.{log, log_if}
use Rattle.qs_node_step.specs.State.{Work, part_of, with_manager}
use Rattle.qs_tm.specs.Manager as tm
use Rattle.qs_tm.specs.Outcomes as outcome_rules
use Rattle.qs_tm.specs.declared.participant.Participant.{Participant}
use Rattle.qs_node_room.specs.Kept.{Kept, kept_at, own_bytes, with_first, with_list, kept_after, total, spent}
use Rattle.qs_node_room.specs.Fits.{IsPartKept, IsRoomy, IsEnough}
use Rattle.qs_book_laws.proofs.Maps.{lookup_changed}
use Rattle.qs_node_room.proofs.Agreeing.{put_own, first_other, first_rises, list_own, list_other, list_rises}
use Rattle.qs_node_room.proofs.Sums.{put_total, set_total}
use Rattle.qs_node_room.proofs.Roomy.{log_roomy, end_roomy, part_at, part_roomy, IsEnding}

-- a list of nodes has at most 16
listed_some : (nodes : Nodes) (xs : List NodeNo) (list : List NodeNo) → length (fold (with_listed nodes) list xs) ≤ length list + length xs
listed_some nodes [] list = grind (arith)
listed_some nodes (x ∷ xs) list = by (has_node nodes x) (listed_some nodes xs (list ++ x ∷ [])) (listed_some nodes xs list)
  where
    longer : (l : List NodeNo) → length (l ++ x ∷ []) ≡ length l + 1
    longer [] = refl
    longer (y ∷ l) = let more : length (l ++ x ∷ []) ≡ length l + 1 = longer l in grind (arith)

    one : (a b c d : ℕ) → a ≤ b + d → b ≡ c + 1 → a ≤ c + suc d
    one a b c d h e = grind (arith)

    none : (a c d : ℕ) → a ≤ c + d → a ≤ c + suc d
    none a c d h = grind (arith)

    by : (b : Bool) → length (fold (with_listed nodes) (list ++ x ∷ []) xs) ≤ length (list ++ x ∷ []) + length xs → length (fold (with_listed nodes) list xs) ≤ length list + length xs → length (fold (with_listed nodes) (if b then list ++ x ∷ [] else list) xs) ≤ length list + length (x ∷ xs)
    by true m n = one (length (fold (with_listed nodes) (list ++ x ∷ []) xs)) (length (list ++ x ∷ [])) (length list) (length xs) m (longer list)
    by false m n = none (length (fold (with_listed nodes) list xs)) (length list) (length xs) n

sixteen : length all_nodes ≡ 16
unfolding all_nodes
sixteen = refl

pub listed_few : (nodes : Nodes) → length (listed nodes) ≤ 16
listed_few nodes = subst (λ (n : ℕ). length (listed nodes) ≤ n) sixteen (zeros (length (listed nodes)) (length all_nodes) (listed_some nodes all_nodes []))
  where
    zeros : (a b : ℕ) → a ≤ 0 + b → a ≤ b
    zeros a b h = grind (arith)

module _ (keep extra bytes : ℕ) (before : Kept) (enough : IsEnough keep extra) where
  abbrev JJ : Work → Type 0
  JJ work = IsRoomy keep extra bytes before work

  abbrev now : Work → Kept
  now work = kept_after keep extra before work.out.records

  least_keep : (k e : ℕ) → (41 + e + 31) + (41 + e + 15) ≤ k → 41 + e + 15 ≤ k
  least_keep k e h = grind (arith)

  -- ---- a vote

  pub prepare_roomy : (tid : Tid) (server : ServerNo) (covers : ℕ) (changes : List Op) (part : Participant) (work : Work) → part_of tid work ≡ Some part → part.involved ≡ true
      → own_bytes extra (records.Prepare tid server covers changes) + keep ≤ work.room → JJ work → JJ (log (records.Prepare tid server covers changes) work)
  prepare_roomy tid server covers changes part work known involved room j = by part.log.unended refl
    where
      rec : Record
      rec = records.Prepare tid server covers changes

      at : IsPartKept keep extra part (kept_at tid (now work))
      at = part_at keep extra bytes before enough tid part work known j

      from_room : (s t c k room b : ℕ) → s + t + room ≤ b → c + k ≤ room → s + c + t + (room - c - 0) ≤ b
      from_room s t c k room b h low = grind (arith)

      whole_room : (s t u c k room b : ℕ) → s + t + room ≤ b → c + k ≤ room → u ≡ t + k → s + c + u + (room - c - k) ≤ b
      whole_room s t u c k room b h low sums = grind (arith)

      by : (b : Bool) → part.log.unended ≡ b → JJ (log rec work)
      by true is = let s = at.some is in
          let same : with_first keep tid (now work) ≡ now work = ap (λ (o : Option ℕ). elim o [ None ↦ insert_entry tid_cmp (now work) tid keep | Some old ↦ now work ]) s.1 in
          log_roomy keep extra bytes before enough rec part work known
          (record {
            prepared = λ e. refl;
            listed = λ e. refl;
            fresh = at.fresh;
            held = λ e none. involved;
            none = λ e. absurd (cc e);
            some = λ e. (s.0, subst (λ (k : Kept). kept_at tid k ≡ Some s.0) (sym same) s.1, s.2);
            whole = λ e l. subst (λ (k : Kept). kept_at tid k ≡ Some keep) (sym same) (at.whole is l);
          })
          (λ q other. first_other keep tid q (now work) other)
          (first_rises keep tid (now work) j.agrees.rising)
          (rw is (subst (λ (k : Kept). spent extra work.out.records + own_bytes extra rec + total k + (work.room - own_bytes extra rec - 0) ≤ bytes) (sym same)
          (from_room (spent extra work.out.records) (total (now work)) (own_bytes extra rec) keep work.room bytes j.within room))) j
      by false is =
          let absent : kept_at tid (now work) ≡ None = at.none is in
          let put : with_first keep tid (now work) ≡ insert_entry tid_cmp (now work) tid keep = ap (λ (o : Option ℕ). elim o [ None ↦ insert_entry tid_cmp (now work) tid keep | Some old ↦ now work ]) absent in
          let found : kept_at tid (with_first keep tid (now work)) ≡ Some keep = subst (λ (k : Kept). kept_at tid k ≡ Some keep) (sym put) (put_own tid keep (now work)) in
          log_roomy keep extra bytes before enough rec part work known
          (record {
            prepared = λ e. refl;
            listed = λ e. refl;
            fresh = at.fresh;
            held = λ e none. involved;
            none = λ e. absurd (cc e);
            some = λ e. (keep, found, least_keep keep extra enough);
            whole = λ e l. found;
          })
          (λ q other. first_other keep tid q (now work) other)
          (first_rises keep tid (now work) j.agrees.rising)
          (rw is (whole_room (spent extra work.out.records) (total (now work)) (total (with_first keep tid (now work))) (own_bytes extra rec) keep work.room bytes j.within room
          (ap total put ∙ put_total tid keep (now work) absent))) j

  -- ---- a Commit that tells nodes

  pub list_roomy : (tid : Tid) (node : NodeNo) (nodes : List NodeNo) (part : Participant) (work : Work) → part_of tid work ≡ Some part → (part.outcome ≡ None → ⊥) → length (node ∷ nodes) ≤ 16
      → ((part.log.unended ≡ true) × (part.log.listed ≡ false)) ⊎ ((part.log.unended ≡ false) × (own_bytes extra (records.Commit tid (node ∷ nodes)) + keep ≤ work.room)) → JJ work → JJ (log (records.Commit tid (node ∷ nodes)) work)
  list_roomy tid node nodes part work known decided few paid j = log_roomy keep extra bytes before enough rec part work known
      (record {
        prepared = λ e. absurd (cc e);
        listed = λ e. e;
        fresh = λ none. absurd (decided none);
        held = λ e none. absurd (decided none);
        none = λ e. absurd (cc (sym is_listed ∙ e));
        some = λ e. (left, list_own left tid (now work), left_is);
        whole = λ e l. absurd (cc (sym is_listed ∙ l));
      })
      (λ q other. list_other left tid q (now work) other)
      (list_rises left tid (now work) j.agrees.rising) (budget paid) j
    where
      rec : Record
      rec = records.Commit tid (node ∷ nodes)

      left : ℕ
      left = keep - own_bytes extra rec

      at : IsPartKept keep extra part (kept_at tid (now work))
      at = part_at keep extra bytes before enough tid part work known j

      is_listed : not (length (node ∷ nodes) == 0) ≡ true
      is_listed = nonzero (length nodes)
        where
          nonzero : (n : ℕ) → not (suc n == 0) ≡ true
          nonzero n = grind (arith, nat_tests)

      leaves : (k e n : ℕ) → (41 + e + 31) + (41 + e + 15) ≤ k → n ≤ 16 → 41 + e + 15 ≤ k - (41 + e + (15 + n))
      leaves k e n h low = grind (arith)

      left_is : 41 + extra + 15 ≤ left
      left_is = leaves keep extra (length (node ∷ nodes)) enough few

      fits : (k e n : ℕ) → (41 + e + 31) + (41 + e + 15) ≤ k → n ≤ 16 → 41 + e + (15 + n) ≤ k
      fits k e n h low = grind (arith)

      from_kept : (s t u c k room b : ℕ) → s + t + room ≤ b → u + k ≡ t + (k - c) → c ≤ k → s + c + u + (room - c - 0) ≤ b
      from_kept s t u c k room b h sums low = grind (arith)

      from_room : (s t u c k room b : ℕ) → s + t + room ≤ b → c + k ≤ room → u ≡ t + (k - c) → c ≤ k → s + c + u + (room - c - k) ≤ b
      from_room s t u c k room b h low sums low2 = grind (arith)

      budget : ((part.log.unended ≡ true) × (part.log.listed ≡ false)) ⊎ ((part.log.unended ≡ false) × (own_bytes extra rec + keep ≤ work.room)) → spent extra work.out.records + own_bytes extra rec + total (with_list left tid (now work)) + (work.room - own_bytes extra rec - (if part.log.unended then 0 else keep)) ≤ bytes
      budget (inl p) =
          let found : kept_at tid (now work) ≡ Some keep = at.whole p.0 p.1 in
          rw p.0 (from_kept (spent extra work.out.records) (total (now work)) (total (with_list left tid (now work))) (own_bytes extra rec) keep work.room bytes j.within
          (subst (λ (o : Option ℕ). total (elim o [ None ↦ insert_entry tid_cmp (now work) tid left | Some old ↦ set_value (is_at (tid_cmp tid)) (now work) left ]) + keep ≡ total (now work) + left) (sym found) (set_total tid left keep (now work) found)) (fits keep extra (length (node ∷ nodes)) enough few))
      budget (inr p) =
          let absent : kept_at tid (now work) ≡ None = at.none p.0 in
          rw p.0 (from_room (spent extra work.out.records) (total (now work)) (total (with_list left tid (now work))) (own_bytes extra rec) keep work.room bytes j.within p.1
          (subst (λ (o : Option ℕ). total (elim o [ None ↦ insert_entry tid_cmp (now work) tid left | Some old ↦ set_value (is_at (tid_cmp tid)) (now work) left ]) ≡ total (now work) + left) (sym absent) (put_total tid left (now work) absent)) (fits keep extra (length (node ∷ nodes)) enough few))

  -- ---- a decision for commit, where it has room

  pub commit_roomy : (tid : Tid) (part : Participant) (work : Work) → part_of tid work ≡ Some part → part.outcome ≡ None → tm.need_past tid work.room work.node.manager ≡ None
      → JJ work → JJ (log_if (outcome_rules.record_of tid outcomes.Commit part) (with_manager (tm.decide tid outcomes.Commit) work))
  commit_roomy tid part work known undecided room j = by (outcome_rules.writes_commit part) refl
    where
      decided : Work
      decided = with_manager (tm.decide tid outcomes.Commit) work

      later : Participant
      later = outcome_rules.decided outcomes.Commit part

      known_later : part_of tid decided ≡ Some later
      known_later = lookup_changed (is_at (tid_cmp tid)) (outcome_rules.decided outcomes.Commit) work.node.manager.known part known

      jj : JJ decided
      jj = part_roomy keep extra bytes before enough tid (outcome_rules.decided outcomes.Commit) work (λ p. record { log = refl; outcome = λ e. absurd (cc e); involved = λ is. is }) j

      needed : ℕ
      needed = tm.commit_need work.node.manager part

      not_less : (a b : ℕ) → nat_lt a b ≡ false → b ≤ a
      not_less a b h = grind (arith, nat_tests)

      sums : (a e c n k : ℕ) → a + e + (c + n) + k ≡ a + e + (c + n) + k
      sums a e c n k = refl

      need_is : needed ≡ 41 + extra + (15 + length (listed part.told)) + keep
      need_is = ap (λ (n : ℕ). 41 + n + (15 + length (listed part.told)) + work.node.manager.keep) j.agrees.extra_too ∙ ap (λ (n : ℕ). 41 + extra + (15 + length (listed part.told)) + n) j.agrees.keep_too

      has_room : outcome_rules.writes_commit part ≡ true → part.log.unended ≡ false → 41 + extra + (15 + length (listed part.told)) + keep ≤ work.room
      has_room writes ended = subst (λ (n : ℕ). n ≤ work.room) need_is (not_less work.room needed (of (nat_lt work.room needed) refl))
        where
          none_of : tm.need_of work.room work.node.manager part ≡ None
          none_of = sym (ap (λ (o : Option Participant). elim o [ None ↦ None | Some p ↦ tm.need_of work.room work.node.manager p ]) known) ∙ room

          lacks : (b : Bool) → nat_lt work.room needed ≡ b → tm.lacks_room work.room work.node.manager part ≡ b
          lacks b is = rw (writes, ended) is

          of : (b : Bool) → nat_lt work.room needed ≡ b → nat_lt work.room needed ≡ false
          of false is = is
          of true is = absurd (let bad : tm.need_of work.room work.node.manager part ≡ Some needed = ap (λ (b : Bool). if b then Some needed else None) (lacks true is) in cc (sym none_of ∙ bad))

      paid : outcome_rules.writes_commit part ≡ true → (b : Bool) → part.log.unended ≡ b → ((part.log.unended ≡ true) × (part.log.listed ≡ false)) ⊎ ((part.log.unended ≡ false) × (41 + extra + (15 + length (listed part.told)) + keep ≤ work.room))
      paid writes true is = inl (is, (part_at keep extra bytes before enough tid part work known j).fresh undecided)
      paid writes false is = inr (is, has_room writes is)

      logged : (told : List NodeNo) → length told ≤ 16 → ((part.log.unended ≡ true) × (part.log.listed ≡ false)) ⊎ ((part.log.unended ≡ false) × (41 + extra + (15 + length told) + keep ≤ work.room)) → JJ (log (records.Commit tid told) decided)
      logged [] few p = end_roomy keep extra bytes before enough (records.Commit tid []) later decided (IsEnding.ByCommit tid) known_later (of p) jj
        where
          of : ((part.log.unended ≡ true) × (part.log.listed ≡ false)) ⊎ ((part.log.unended ≡ false) × (41 + extra + (15 + length {A = NodeNo} []) + keep ≤ work.room)) → (part.log.unended ≡ true) ⊎ ((part.log.unended ≡ false) × (own_bytes extra (records.Commit tid []) + keep ≤ work.room))
          of (inl p) = inl p.0
          of (inr p) = inr p
      logged (node ∷ nodes) few p = list_roomy tid node nodes later decided known_later (λ none. cc none) few p jj

      by : (b : Bool) → outcome_rules.writes_commit part ≡ b → JJ (log_if (if b then Some (records.Commit tid (listed part.told)) else None) decided)
      by true writes = logged (listed part.told) (listed_few part.told) (paid writes part.log.unended refl)
      by false writes = jj
