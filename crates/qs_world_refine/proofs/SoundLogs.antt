-- What a log says is what a node can take up, so that each node of an opening, and each that restarts, is sound.
use Rattle.qs_world_refine.proofs.Words.{◌≡◌, ℕ, ◌≤◌, ◌==◌, ◌&&◌, ◌||◌, not, nat_lt, nat_le, Bool, true, false, List, [], ◌∷◌, ◌++◌, length, map, fold, Option, Some, None, refl, sym, ap, subst, ◌∙◌, arith, if◌then◌else◌, Global, list_all, list_any, filter, eqb-true, or_from, or_right, nat_tests, same_tid, NodeNo, Tid, same_node, no_kept, is_standing_loan, Kept, Lent, is_recoverable, Record, Prepared, Untold, Recovery, recovery, found_record, nothing_said, names_transaction, is_vote_of}
use Rattle.qs_world_refine.proofs.Words.{is_untold_of, mark_committed, ended, with_list, prepare_of, commit_of, in_doubt, untold, Manager, take_up, new_manager, opened_node, recovered_as, recovered_of, NodeValue, Setting, is_record, is_list, is_setting, Opening, each_is, is_sound, is_sound_part, is_sound_loan, is_sound_label, is_past, where_so, may_vote, is_list_of, is_loan_before, is_label_before, kept_before, fits_setting, eqb-self}
use Rattle.qs_record.specs.declared.record.Record.TheVariants as records
use Rattle.qs_restart.specs.Recovery as restart
use Rattle.qs_restart.specs.Recovery.{is_of}
use Rattle.qs_world.specs.Openings.{has_node}
use Rattle.qs_world_refine.specs.SoundLaws.{OpenedSound, RestartSound}
use Rattle.qs_world_refine.proofs.SoundParts.{and_both, both_and}
use Rattle.qs_world_refine.proofs.SoundBegin.{all_last, all_implied}
use Rattle.qs_world_refine.proofs.SoundStart.{fits, setting_fits}
use Rattle.qs_world_refine.proofs.SoundFrames.{parts_moved}
use Rattle.qs_world_refine.proofs.SoundOpened.{Known, with_known, is_vote, is_commit, all_taken}
use Rattle.qs_world_refine.proofs.SoundViews.{seen, sound_as}

-- ---- what stands of a fold

pub all_filtered : {X : Type 0} (p q : X → Bool) (xs : List X) → list_all p xs ≡ true → list_all p (filter q xs) ≡ true
all_filtered p q [] all = refl
all_filtered p q (x ∷ xs) all = by (q x) refl (all_filtered p q xs (and_both (p x) (list_all p xs) all).1)
  where
    by : (b : Bool) → q x ≡ b → list_all p (filter q xs) ≡ true → list_all p (filter q (x ∷ xs)) ≡ true
    by true is more = rw is (both_and (p x) (list_all p (filter q xs)) (and_both (p x) (list_all p xs) all).0 more)
    by false is more = rw is more

marked : (tid : Tid) (votes : List Prepared) → list_all may_vote (map (mark_committed tid) votes) ≡ list_all may_vote votes
marked tid [] = refl
marked tid (v ∷ votes) = by (is_of tid v) (marked tid votes)
  where
    by : (b : Bool) → list_all may_vote (map (mark_committed tid) votes) ≡ list_all may_vote votes → (may_vote (if b then record v { committed = true } else v) && list_all may_vote (map (mark_committed tid) votes)) ≡ (may_vote v && list_all may_vote votes)
    by true more = ap (λ (b : Bool). may_vote v && b) more
    by false more = ap (λ (b : Bool). may_vote v && b) more

-- ---- what a node can take up

module _ (me : NodeNo) where
  abbrev pub Fits : Recovery → Type 0
  Fits said = (list_all may_vote said.prepared ≡ true) × (list_all (is_list_of me) said.untold ≡ true)

  ended_fits : (tid : Tid) (said : Recovery) → Fits said → Fits (ended tid said)
  ended_fits tid said is = (all_filtered may_vote (λ vote. not (is_of tid vote)) said.prepared is.0, all_filtered (is_list_of me) (λ commit. not (is_untold_of tid commit)) said.untold is.1)

  listed_fits : (tid : Tid) (told : List NodeNo) (said : Recovery) → is_list me.0 tid told ≡ true → Fits said → Fits (with_list tid told said)
  listed_fits tid [] said its is = ended_fits tid said is
  listed_fits tid (first ∷ others) said its is = (marked tid said.prepared ∙ is.0, all_last (is_list_of me) said.untold (record { tid = tid; told = first ∷ others }) is.1 (and_both (tid.home.0 == me.0) _ its).0)

  module _ (alloc : Global) (setting : Setting) (named : setting.node.0 ≡ me.0) where
    doubts : (votes : List Prepared) → list_all may_vote votes ≡ true → list_all (is_vote alloc setting) (map prepare_of (filter restart.is_in_doubt votes)) ≡ true
    doubts [] all = refl
    doubts (v ∷ votes) all = by (restart.is_in_doubt v) refl (doubts votes (and_both (may_vote v) (list_all may_vote votes) all).1)
      where
        by : (b : Bool) → restart.is_in_doubt v ≡ b → list_all (is_vote alloc setting) (map prepare_of (filter restart.is_in_doubt votes)) ≡ true → list_all (is_vote alloc setting) (map prepare_of (filter restart.is_in_doubt (v ∷ votes))) ≡ true
        by true is more = rw is (both_and (may_vote v) (list_all (is_vote alloc setting) (map prepare_of (filter restart.is_in_doubt votes))) (and_both (may_vote v) (list_all may_vote votes) all).0 more)
        by false is more = rw is more

    lists : (commits : List Untold) → list_all (is_list_of me) commits ≡ true → list_all (is_commit alloc setting) (map commit_of (filter (λ (commit : Untold). names_transaction commit.tid) commits)) ≡ true
    lists [] all = refl
    lists (c ∷ commits) all = by (names_transaction c.tid) refl (lists commits (and_both (is_list_of me c) (list_all (is_list_of me) commits) all).1)
      where
        home : same_node c.tid.home setting.node ≡ true
        home = rw named (and_both (is_list_of me c) (list_all (is_list_of me) commits) all).0

        by : (b : Bool) → names_transaction c.tid ≡ b → list_all (is_commit alloc setting) (map commit_of (filter (λ (commit : Untold). names_transaction commit.tid) commits)) ≡ true
            → list_all (is_commit alloc setting) (map commit_of (filter (λ (commit : Untold). names_transaction commit.tid) (c ∷ commits))) ≡ true
        by true is more = rw is (both_and ((length c.told == 0) || same_node c.tid.home setting.node) (list_all (is_commit alloc setting) (map commit_of (filter (λ (commit : Untold). names_transaction commit.tid) commits))) (or_right (length c.told == 0) (same_node c.tid.home setting.node) home) more)
        by false is more = rw is more

    abbrev bare : NodeValue
    bare = opened_node alloc setting (recovered_of []) no_kept

    known : (said : Recovery) → Fits said → Known alloc setting (is_sound_part bare) (fold take_up (new_manager alloc setting) (in_doubt said ++ untold said))
    known said is = all_taken alloc setting (in_doubt said) (untold said) (doubts said.prepared is.0) (lists said.untold is.1)

    -- of what it keeps for its clients all is of earlier incarnations
    module _ (kept : Kept) (before : kept_before setting.node setting.inc kept ≡ true) where
      both : (list_all (is_loan_before setting.inc) kept.loans ≡ true) × (list_all (is_label_before setting.node setting.inc) kept.labels ≡ true)
      both = and_both (list_all (is_loan_before setting.inc) kept.loans) (list_all (is_label_before setting.node setting.inc) kept.labels) before

      apart : (loan : Lent) → nat_lt loan.inc setting.inc ≡ true → (loan.inc == setting.inc) ≡ false
      apart loan is = grind (arith, nat_tests, is)

      none_stands : (t : Tid) (loan : Lent) → is_loan_before setting.inc loan ≡ true → is_standing_loan t setting.inc loan ≡ false
      none_stands t loan is = by (same_tid t loan.tid) (not loan.yielded) (loan.inc == setting.inc) (apart loan is)
        where
          by : (a b c : Bool) → c ≡ false → (a && (b && c)) ≡ false
          by true true c so = so
          by true false c so = refl
          by false b c so = refl

      none_lent : (t : Tid) (loans : List Lent) → list_all (is_loan_before setting.inc) loans ≡ true → list_any (is_standing_loan t setting.inc) loans ≡ false
      none_lent t [] all = refl
      none_lent t (loan ∷ loans) all =
          let first : (is_loan_before setting.inc loan ≡ true) × (list_all (is_loan_before setting.inc) loans ≡ true) = and_both (is_loan_before setting.inc loan) (list_all (is_loan_before setting.inc) loans) all in
          or_from (is_standing_loan t setting.inc loan) (list_any (is_standing_loan t setting.inc) loans) (none_stands t loan first.0) (none_lent t loans first.1)

      module _ (said : Recovery) (m : Manager) where
        abbrev opened : NodeValue
        opened = record (opened_node alloc setting (recovered_as said) kept) { manager = m }

        gone : (b c : Bool) → b ≡ false → where_so b c ≡ true
        gone b c is = rw is refl

        loans_sound : list_all (is_sound_loan opened) kept.loans ≡ true
        loans_sound = all_implied (is_loan_before setting.inc) (is_sound_loan opened) (λ loan is. gone (is_standing_loan loan.tid setting.inc loan) _ (none_stands loan.tid loan is)) kept.loans both.0

        labels_sound : list_all (is_sound_label opened) kept.labels ≡ true
        labels_sound = all_implied (is_label_before setting.node setting.inc) (is_sound_label opened) (λ begun. by begun.tid) kept.labels both.1
          where
            earlier : (tid : Tid) → nat_lt tid.inc setting.inc ≡ true → (tid.inc == setting.inc) ≡ false
            earlier tid is = grind (arith, nat_tests, is)

            past : (h e k c : Bool) → (h ≡ true → e ≡ false) → where_so ((h && e) && k) c ≡ true
            past true true k c off = let wrong : true ≡ false = off refl in absurd (cc (wrong))
            past true false k c off = refl
            past false e k c off = refl

            before_is : (h e : Bool) → (not h || e) ≡ true → h ≡ true → e ≡ true
            before_is true e is so = is
            before_is false e is so = absurd (cc (so))

            by : (o : Option Tid) → ◌≡◌ {A = Bool} (elim o [ None ↦ true | Some tid ↦ not (same_node tid.home setting.node) || nat_lt tid.inc setting.inc ]) true → ◌≡◌ {A = Bool} (elim o [ None ↦ true | Some tid ↦ is_past opened tid ]) true
            by None is = refl
            by (Some tid) is = past (same_node tid.home setting.node) (tid.inc == setting.inc) _ _ (λ home. earlier tid (before_is (same_node tid.home setting.node) (nat_lt tid.inc setting.inc) is home))

      node_sound : (said : Recovery) (m : Manager) → Known alloc setting (is_sound_part bare) m → fits setting ≡ true → is_sound (record (opened_node alloc setting (recovered_as said) kept) { manager = m }) ≡ true
      node_sound said m k its = subst (λ (x : Manager). is_sound (record (opened_node alloc setting (recovered_as said) kept) { manager = x }) ≡ true) (sym k.is)
          (sound_as (opened said (with_known alloc setting k.es)) (record {
            fits = its;
            ordered = k.ordered;
            parts = parts_moved bare k.es [] (opened_node alloc setting (recovered_as said) kept).kept (λ t is. is) (λ t is. let none : list_any (is_standing_loan t setting.inc) kept.loans ≡ false = none_lent t kept.loans both.0 in absurd (cc (is, none))) k.es k.all;
            queues = refl;
            loans = loans_sound said (with_known alloc setting k.es);
            labels = labels_sound said (with_known alloc setting k.es);
          }))

    pub taken_sound : (kept : Kept) → kept_before setting.node setting.inc kept ≡ true → (said : Recovery) → Fits said → fits setting ≡ true → is_sound (opened_node alloc setting (recovered_as said) kept) ≡ true
    taken_sound kept before said is its = node_sound kept before said (fold take_up (new_manager alloc setting) (in_doubt said ++ untold said)) (known said is) its

-- ---- an opening

module _ (o : Opening) (n : ℕ) where
  abbrev me : NodeNo
  me = record { 0 = n }

  record_fits : (rec : Record) (said : Recovery) → is_record o n rec ≡ true → Fits me said → Fits me (found_record said rec)
  record_fits (records.Prepare tid server covers changes) said its is = (
    all_last may_vote (filter (λ other. not (is_vote_of tid server other)) said.prepared) (record { tid = tid; server = server; covers = covers; changes = changes; committed = false })
        (all_filtered may_vote (λ other. not (is_vote_of tid server other)) said.prepared is.0) (and_both (is_recoverable server.0) _ (and_both _ (is_recoverable server.0 && _) its).1).0,
    is.1,
  )
  record_fits (records.Commit tid told) said its is = listed_fits me tid told _ (and_both _ (is_list n tid told) (and_both _ (_ && is_list n tid told) its).1).1 is
  record_fits (records.Aborted tid) said its is = ended_fits me tid said is
  record_fits (records.End tid) said its is = ended_fits me tid said is

  pub log_fits : (log : List Record) (said : Recovery) → list_all (is_record o n) log ≡ true → Fits me said → Fits me (fold found_record said log)
  log_fits [] said all is = is
  log_fits (rec ∷ log) said all is =
      let both : (is_record o n rec ≡ true) × (list_all (is_record o n) log ≡ true) = and_both (is_record o n rec) (list_all (is_record o n) log) all in
      log_fits log (found_record said rec) both.1 (record_fits rec said both.0 is)

pub opened_sound : OpenedSound
opened_sound o opens n in_run = taken_sound (me o n) o.alloc (o.settings n) named no_kept refl (recovery (o.logs n))
    (log_fits o n (o.logs n) nothing_said (each_is o.size (λ k. list_all (is_record o k) (o.logs k)) opens.logs n in_run) (refl, refl)) (setting_fits o.size n (o.settings n) small in_run its)
  where
    small : o.size ≤ 16
    small = grind (arith, nat_tests, (and_both (nat_le 1 o.size) (nat_le o.size 16) opens.size).1)

    its : is_setting o.size n (o.settings n) ≡ true
    its = each_is o.size (λ k. is_setting o.size k (o.settings k)) opens.settings n in_run

    named : (o.settings n).node.0 ≡ n
    named = eqb-true (o.settings n).node.0 n (and_both ((o.settings n).node.0 == n) ((o.settings n).nodes == o.size) (and_both (((o.settings n).node.0 == n) && ((o.settings n).nodes == o.size)) _ its).0).0

-- ---- a restart

pub restart_sound : RestartSound
restart_sound inc said node later takes before sound = taken_sound node.setting.node node.manager.alloc (record node.setting { inc = inc }) refl node.kept.saved before said
    (and_both (list_all may_vote said.prepared) (list_all (is_list_of node.setting.node) said.untold) takes) (refit inc node later (seen node sound).fits)
  where
    refit : (inc : ℕ) (node : NodeValue) → nat_lt node.setting.inc inc ≡ true → fits_setting node ≡ true → fits (record node.setting { inc = inc }) ≡ true
    refit inc node later its =
        let a : ((nat_lt node.setting.node.0 node.setting.nodes && (nat_le node.setting.nodes 16 && nat_lt 0 node.setting.inc)) ≡ true) × _ = and_both (nat_lt node.setting.node.0 node.setting.nodes && (nat_le node.setting.nodes 16 && nat_lt 0 node.setting.inc)) _ its in
        let b : (nat_lt node.setting.node.0 node.setting.nodes ≡ true) × ((nat_le node.setting.nodes 16 && nat_lt 0 node.setting.inc) ≡ true) = and_both (nat_lt node.setting.node.0 node.setting.nodes) (nat_le node.setting.nodes 16 && nat_lt 0 node.setting.inc) a.0 in
        let c : (nat_le node.setting.nodes 16 ≡ true) × (nat_lt 0 node.setting.inc ≡ true) = and_both (nat_le node.setting.nodes 16) (nat_lt 0 node.setting.inc) b.1 in
        all (nat_lt node.setting.node.0 node.setting.nodes) (nat_le node.setting.nodes 16) (nat_lt 0 inc) (node.setting.node.0 == node.setting.node.0) (inc == inc) (node.setting.extra == node.setting.extra) (node.setting.keep == node.setting.keep)
        (Rattle.qs_world.specs.Openings.is_audit node.setting.nodes node.setting.audit) b.0 c.0 (grind (arith, nat_tests, later)) (eqb-self node.setting.node.0) (eqb-self inc) (eqb-self node.setting.extra) (eqb-self node.setting.keep) (Rattle.qs_world_refine.proofs.SoundCount.audit_fits node its)
      where
        all : (a b c d e f g h : Bool) → a ≡ true → b ≡ true → c ≡ true → d ≡ true → e ≡ true → f ≡ true → g ≡ true → h ≡ true → ((a && (b && c)) && (d && (e && (f && (g && h))))) ≡ true
        all a b c d e f g h p q r s t u v w = rw (p, q, r, s, t, u, v, w) refl
