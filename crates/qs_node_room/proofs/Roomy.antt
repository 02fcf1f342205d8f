-- Each thing that a step does leaves the log room for what it keeps.
use Rattle.std.proofs.Common.{◌≡◌, ℕ, ◌+◌, ◌-◌, ◌≤◌, arith, true, false, List, [], ◌∷◌, ◌++◌, Option, Some, None, refl, sym, ap, subst, ◌∙◌, ◌⊎◌, inl, inr, if◌then◌else◌}
use Rattle.std.specs.Map.{lookup, remove_entry}
use Rattle.std.specs.BTreeMap.{insert_entry, is_at}
use Rattle.qs_base.specs.Order.{tid_cmp}
use Rattle.qs_base.specs.declared.identifiers.Tid.{Tid}
use Rattle.qs_record.specs.Grammar.{record_length}
use Rattle.qs_record.specs.declared.record.Record.{Record}
use Rattle.qs_record.specs.declared.record.Record.TheVariants as records
use Rattle.qs_node_step.specs.Bringing.{log, tid_of, record_need, kept_for}
use Rattle.qs_node_step.specs.State.{Work, part_of, with_manager}
use Rattle.qs_node_step.specs.declared.setting.Setting.{Setting}
use Rattle.qs_tm.specs.Manager as tm
use Rattle.qs_tm.specs.Outcomes as outcome_rules
use Rattle.qs_tm.specs.declared.participant.InLog.{InLog}
use Rattle.qs_tm.specs.declared.participant.Participant.{Participant}
use Rattle.qs_node_room.specs.Kept.{Kept, kept_at, own_bytes, without, after_record, kept_after, total, spent}
use Rattle.qs_node_room.specs.Fits.{IsPartKept, Agrees, IsRoomy, IsEnough}
use Rattle.qs_book_laws.proofs.Rising.{IsRising}
use Rattle.qs_book_laws.proofs.Maps.{lookup_changed, changed_none}
use Rattle.qs_node_room.proofs.Agreeing.{put_own, put_other, changed_other, changed_rises, remove_own, remove_other, remove_none, remove_rising, put_rising, spread}
use Rattle.qs_node_room.proofs.Sums.{remove_total, spent_one, kept_one}

-- a change of what is kept of a transaction that leaves what it knows of the log
pub record Steady (old new : Participant) : Type 0 where
  pub log : new.log ≡ old.log
  pub outcome : new.outcome ≡ None → old.outcome ≡ None
  pub involved : old.involved ≡ true → new.involved ≡ true

module _ (keep extra bytes : ℕ) (before : Kept) (enough : IsEnough keep extra) where
  abbrev pub J : Work → Type 0
  J work = IsRoomy keep extra bytes before work

  abbrev pub kept_now : Work → Kept
  kept_now work = kept_after keep extra before work.out.records

  steady_part : (old new : Participant) → Steady old new → (o : Option ℕ) → IsPartKept keep extra old o → IsPartKept keep extra new o
  steady_part old new s o p = record {
    prepared = subst (λ (l : InLog). l.prepared ≡ true → l.unended ≡ true) (sym s.log) p.prepared;
    listed = subst (λ (l : InLog). l.listed ≡ true → l.unended ≡ true) (sym s.log) p.listed;
    fresh = λ none. subst (λ (l : InLog). l.listed ≡ false) (sym s.log) (p.fresh (s.outcome none));
    held = λ is none. s.involved (p.held (subst (λ (l : InLog). l.unended ≡ true) s.log is) (s.outcome none));
    none = subst (λ (l : InLog). l.unended ≡ false → o ≡ None) (sym s.log) p.none;
    some = subst (λ (l : InLog). l.unended ≡ true → (left : ℕ) × (o ≡ Some left) × (41 + extra + 15 ≤ left)) (sym s.log) p.some;
    whole = subst (λ (l : InLog). l.unended ≡ true → l.listed ≡ false → o ≡ Some keep) (sym s.log) p.whole;
  }

  -- nothing that this is about changed
  pub still_roomy : (work new : Work) → new.out.records ≡ work.out.records → new.node.manager.known ≡ work.node.manager.known → new.room ≡ work.room → new.node.setting ≡ work.node.setting → new.node.manager.keep ≡ work.node.manager.keep → new.node.manager.extra ≡ work.node.manager.extra → J work → J new
  still_roomy work new out known room setting k e j = record {
    agrees = record {
      keep_is = ap (λ (s : Setting). s.keep) setting ∙ j.agrees.keep_is;
      extra_is = ap (λ (s : Setting). s.extra) setting ∙ j.agrees.extra_is;
      keep_too = k ∙ j.agrees.keep_too;
      extra_too = e ∙ j.agrees.extra_too;
      known = subst (λ (x : List (Tid × Participant)). IsRising tid_cmp x) (sym known) j.agrees.known;
      rising = subst (λ (x : List Record). IsRising tid_cmp (kept_after keep extra before x)) (sym out) j.agrees.rising;
      parts = λ tid. subst (λ (x : List Record). Agrees keep extra (tm.part_of tid new.node.manager) (kept_at tid (kept_after keep extra before x))) (sym out) (subst (λ (x : List (Tid × Participant)). Agrees keep extra (lookup (is_at (tid_cmp tid)) x) (kept_at tid (kept_now work))) (sym known) (j.agrees.parts tid));
    };
    within = subst (λ (x : List Record). spent extra x + total (kept_after keep extra before x) + new.room ≤ bytes) (sym out) (subst (λ (n : ℕ). spent extra work.out.records + total (kept_now work) + n ≤ bytes) (sym room) j.within);
  }

  -- ---- what is kept of a transaction changes

  pub part_roomy : (tid : Tid) (f : Participant → Participant) (work : Work) → ((part : Participant) → Steady part (f part)) → J work → J (with_manager (tm.with_part tid f) work)
  part_roomy tid f work steady j = record {
    agrees = record {
      keep_is = j.agrees.keep_is;
      extra_is = j.agrees.extra_is;
      keep_too = j.agrees.keep_too;
      extra_too = j.agrees.extra_too;
      known = changed_rises (is_at (tid_cmp tid)) f work.node.manager.known j.agrees.known;
      rising = j.agrees.rising;
      parts = spread keep extra tid work.node.manager.known (tm.changed_value (is_at (tid_cmp tid)) f work.node.manager.known) (kept_now work) (kept_now work)
          (own (lookup (is_at (tid_cmp tid)) work.node.manager.known) refl) (λ q other. changed_other tid q f work.node.manager.known other) (λ q other. refl) j.agrees.parts;
    };
    within = j.within;
  }
    where
      own : (o : Option Participant) → lookup (is_at (tid_cmp tid)) work.node.manager.known ≡ o → Agrees keep extra (lookup (is_at (tid_cmp tid)) (tm.changed_value (is_at (tid_cmp tid)) f work.node.manager.known)) (kept_at tid (kept_now work))
      own None is = subst (λ (o : Option Participant). Agrees keep extra o (kept_at tid (kept_now work))) (sym (changed_none (is_at (tid_cmp tid)) f work.node.manager.known is)) (subst (λ (o : Option Participant). Agrees keep extra o (kept_at tid (kept_now work))) is (j.agrees.parts tid))
      own (Some part) is = subst (λ (o : Option Participant). Agrees keep extra o (kept_at tid (kept_now work))) (sym (lookup_changed (is_at (tid_cmp tid)) f work.node.manager.known part is))
          (steady_part part (f part) (steady part) (kept_at tid (kept_now work)) (subst (λ (o : Option Participant). Agrees keep extra o (kept_at tid (kept_now work))) is (j.agrees.parts tid)))

  -- one that has nothing in the log
  pub record IsBlank (part : Participant) : Type 0 where
    pub unended : part.log.unended ≡ false
    pub prepared : part.log.prepared ≡ false
    pub listed : part.log.listed ≡ false

  pub put_roomy : (tid : Tid) (part : Participant) (work : Work) → part_of tid work ≡ None → IsBlank part → J work → J (with_manager (tm.put_part tid part) work)
  put_roomy tid part work none blank j = record {
    agrees = record {
      keep_is = j.agrees.keep_is;
      extra_is = j.agrees.extra_is;
      keep_too = j.agrees.keep_too;
      extra_too = j.agrees.extra_too;
      known = put_rising tid part work.node.manager.known j.agrees.known;
      rising = j.agrees.rising;
      parts = spread keep extra tid work.node.manager.known (insert_entry tid_cmp work.node.manager.known tid part) (kept_now work) (kept_now work)
          (subst (λ (o : Option Participant). Agrees keep extra o (kept_at tid (kept_now work))) (sym (put_own tid part work.node.manager.known)) blank_part) (λ q other. put_other tid q part work.node.manager.known other) (λ q other. refl) j.agrees.parts;
    };
    within = j.within;
  }
    where
      bytes_none : kept_at tid (kept_now work) ≡ None
      bytes_none = subst (λ (o : Option Participant). Agrees keep extra o (kept_at tid (kept_now work))) none (j.agrees.parts tid)

      blank_part : IsPartKept keep extra part (kept_at tid (kept_now work))
      blank_part = record {
        prepared = λ e. absurd (let no : part.log.prepared ≡ false = blank.prepared in cc (e, no));
        listed = λ e. absurd (let no : part.log.listed ≡ false = blank.listed in cc (e, no));
        fresh = λ e. blank.listed;
        held = λ e none. absurd (let no : part.log.unended ≡ false = blank.unended in cc (e, no));
        none = λ e. bytes_none;
        some = λ e. absurd (let no : part.log.unended ≡ false = blank.unended in cc (e, no));
        whole = λ e l. absurd (let no : part.log.unended ≡ false = blank.unended in cc (e, no));
      }

  pub drop_roomy : (tid : Tid) (part : Participant) (work : Work) → part_of tid work ≡ Some part → part.log.unended ≡ false → J work → J (with_manager (tm.forget tid) work)
  drop_roomy tid part work known unended j = record {
    agrees = record {
      keep_is = j.agrees.keep_is;
      extra_is = j.agrees.extra_is;
      keep_too = j.agrees.keep_too;
      extra_too = j.agrees.extra_too;
      known = remove_rising (is_at (tid_cmp tid)) work.node.manager.known j.agrees.known;
      rising = j.agrees.rising;
      parts = spread keep extra tid work.node.manager.known (remove_entry (is_at (tid_cmp tid)) work.node.manager.known) (kept_now work) (kept_now work)
          (subst (λ (o : Option Participant). Agrees keep extra o (kept_at tid (kept_now work))) (sym (remove_own tid work.node.manager.known j.agrees.known)) (at.none unended)) (λ q other. remove_other tid q work.node.manager.known other) (λ q other. refl) j.agrees.parts;
    };
    within = j.within;
  }
    where
      at : IsPartKept keep extra part (kept_at tid (kept_now work))
      at = subst (λ (o : Option Participant). Agrees keep extra o (kept_at tid (kept_now work))) known (j.agrees.parts tid)

  -- ---- a record is appended

  room_after : Record → Participant → Work → ℕ
  room_after rec part work = work.room - own_bytes extra rec - (if part.log.unended then 0 else keep)

  pub log_roomy : (rec : Record) (part : Participant) (work : Work) → part_of (tid_of rec) work ≡ Some part
      → IsPartKept keep extra (outcome_rules.logged rec part) (kept_at (tid_of rec) (after_record keep extra (kept_now work) rec))
      → ((q : Tid) → is_at (tid_cmp (tid_of rec)) q ≡ false → kept_at q (after_record keep extra (kept_now work) rec) ≡ kept_at q (kept_now work))
      → IsRising tid_cmp (after_record keep extra (kept_now work) rec)
      → (spent extra work.out.records + own_bytes extra rec) + total (after_record keep extra (kept_now work) rec) + (work.room - own_bytes extra rec - (if part.log.unended then 0 else keep)) ≤ bytes
      → J work → J (log rec work)
  log_roomy rec part work known own other rising within j = record {
    agrees = record {
      keep_is = j.agrees.keep_is;
      extra_is = j.agrees.extra_is;
      keep_too = j.agrees.keep_too;
      extra_too = j.agrees.extra_too;
      known = changed_rises (is_at (tid_cmp (tid_of rec))) (outcome_rules.logged rec) work.node.manager.known j.agrees.known;
      rising = subst (λ (k : Kept). IsRising tid_cmp k) (sym more) rising;
      parts = λ q. subst (λ (k : Kept). Agrees keep extra (lookup (is_at (tid_cmp q)) (tm.changed_value (is_at (tid_cmp (tid_of rec))) (outcome_rules.logged rec) work.node.manager.known)) (kept_at q k)) (sym more)
          (spread keep extra (tid_of rec) work.node.manager.known (tm.changed_value (is_at (tid_cmp (tid_of rec))) (outcome_rules.logged rec) work.node.manager.known) (kept_now work) (after_record keep extra (kept_now work) rec)
          (subst (λ (o : Option Participant). Agrees keep extra o (kept_at (tid_of rec) (after_record keep extra (kept_now work) rec))) (sym (lookup_changed (is_at (tid_cmp (tid_of rec))) (outcome_rules.logged rec) work.node.manager.known part known)) own)
          (λ q not_it. changed_other (tid_of rec) q (outcome_rules.logged rec) work.node.manager.known not_it) other j.agrees.parts q);
    };
    within = subst (λ (n : ℕ). n + total (kept_now (log rec work)) + (log rec work).room ≤ bytes) (sym (spent_one extra work.out.records rec))
        (subst (λ (k : Kept). spent extra work.out.records + own_bytes extra rec + total k + (log rec work).room ≤ bytes) (sym more)
        (subst (λ (n : ℕ). spent extra work.out.records + own_bytes extra rec + total (after_record keep extra (kept_now work) rec) + n ≤ bytes) (sym room_is) within));
  }
    where
      more : kept_after keep extra before (work.out.records ++ rec ∷ []) ≡ after_record keep extra (kept_now work) rec
      more = kept_one keep extra before work.out.records rec

      room_is : (log rec work).room ≡ work.room - own_bytes extra rec - (if part.log.unended then 0 else keep)
      room_is = ap (λ (o : Option Participant). work.room - record_need work.node.setting rec - kept_for work.node.setting o) known
          ∙ (ap (λ (n : ℕ). work.room - (41 + n + record_length rec) - (if part.log.unended then 0 else work.node.setting.keep)) j.agrees.extra_is
          ∙ ap (λ (n : ℕ). work.room - (41 + extra + record_length rec) - (if part.log.unended then 0 else n)) j.agrees.keep_is)

  pub part_at : (tid : Tid) (part : Participant) (work : Work) → part_of tid work ≡ Some part → J work → IsPartKept keep extra part (kept_at tid (kept_now work))
  part_at tid part work known j = subst (λ (o : Option Participant). Agrees keep extra o (kept_at tid (kept_now work))) known (j.agrees.parts tid)

  -- ---- a record that ends the transaction is paid from what is kept

  pub data IsEnding : Record → Type 0 where
    ByCommit : (tid : Tid) → IsEnding (records.Commit tid [])
    ByAborted : (tid : Tid) → IsEnding (records.Aborted tid)
    ByEnd : (tid : Tid) → IsEnding (records.End tid)

  blank_logged : (rec : Record) → IsEnding rec → (part : Participant) (o : Option ℕ) → o ≡ None → IsPartKept keep extra (outcome_rules.logged rec part) o
  blank_logged rec (ByCommit tid) part o none = record { prepared = λ e. absurd (cc e); listed = λ e. absurd (cc e); fresh = λ e. refl; held = λ e n. absurd (cc e); none = λ e. none; some = λ e. absurd (cc e); whole = λ e l. absurd (cc e) }
  blank_logged rec (ByAborted tid) part o none = record { prepared = λ e. absurd (cc e); listed = λ e. absurd (cc e); fresh = λ e. refl; held = λ e n. absurd (cc e); none = λ e. none; some = λ e. absurd (cc e); whole = λ e l. absurd (cc e) }
  blank_logged rec (ByEnd tid) part o none = record { prepared = λ e. absurd (cc e); listed = λ e. absurd (cc e); fresh = λ e. refl; held = λ e n. absurd (cc e); none = λ e. none; some = λ e. absurd (cc e); whole = λ e l. absurd (cc e) }

  ending_without : (rec : Record) → IsEnding rec → (es : Kept) → after_record keep extra es rec ≡ without (tid_of rec) es
  ending_without rec (ByCommit tid) es = refl
  ending_without rec (ByAborted tid) es = refl
  ending_without rec (ByEnd tid) es = refl

  ending_bytes : (rec : Record) → IsEnding rec → own_bytes extra rec ≤ 41 + extra + 15
  ending_bytes rec (ByCommit tid) = grind (arith)
  ending_bytes rec (ByAborted tid) = grind (arith)
  ending_bytes rec (ByEnd tid) = grind (arith)

  pub end_roomy : (rec : Record) (part : Participant) (work : Work) → IsEnding rec → part_of (tid_of rec) work ≡ Some part
      → (part.log.unended ≡ true) ⊎ ((part.log.unended ≡ false) × (own_bytes extra rec + keep ≤ work.room)) → J work → J (log rec work)
  end_roomy rec part work ending known paid j = log_roomy rec part work known
      (blank_logged rec ending part _ (subst (λ (k : Kept). kept_at (tid_of rec) k ≡ None) (sym is) (remove_own (tid_of rec) (kept_now work) j.agrees.rising)))
      (λ q other. subst (λ (k : Kept). kept_at q k ≡ kept_at q (kept_now work)) (sym is) (remove_other (tid_of rec) q (kept_now work) other))
      (subst (λ (k : Kept). IsRising tid_cmp k) (sym is) (remove_rising (is_at (tid_cmp (tid_of rec))) (kept_now work) j.agrees.rising))
      (subst (λ (k : Kept). spent extra work.out.records + own_bytes extra rec + total k + (work.room - own_bytes extra rec - (if part.log.unended then 0 else keep)) ≤ bytes) (sym is) (budget paid)) j
    where
      is : after_record keep extra (kept_now work) rec ≡ without (tid_of rec) (kept_now work)
      is = ending_without rec ending (kept_now work)

      at : IsPartKept keep extra part (kept_at (tid_of rec) (kept_now work))
      at = part_at (tid_of rec) part work known j

      from_kept : (s t u c e left room b : ℕ) → s + t + room ≤ b → u + left ≡ t → c ≤ e → e ≤ left → s + c + u + (room - c - 0) ≤ b
      from_kept s t u c e left room b h sums low low2 = grind (arith)

      from_room : (s t c k room b : ℕ) → s + t + room ≤ b → c + k ≤ room → s + c + t + (room - c - k) ≤ b
      from_room s t c k room b h low = grind (arith)

      budget : (part.log.unended ≡ true) ⊎ ((part.log.unended ≡ false) × (own_bytes extra rec + keep ≤ work.room)) → spent extra work.out.records + own_bytes extra rec + total (without (tid_of rec) (kept_now work)) + (work.room - own_bytes extra rec - (if part.log.unended then 0 else keep)) ≤ bytes
      budget (inl unended) = let s = at.some unended in rw unended (from_kept (spent extra work.out.records) (total (kept_now work)) (total (without (tid_of rec) (kept_now work))) (own_bytes extra rec) (41 + extra + 15) s.0 work.room bytes j.within
          (remove_total (tid_of rec) s.0 (kept_now work) s.1) (ending_bytes rec ending) s.2)
      budget (inr p) = rw p.0 (subst (λ (k : Kept). spent extra work.out.records + own_bytes extra rec + total k + (work.room - own_bytes extra rec - keep) ≤ bytes) (sym (remove_none (is_at (tid_cmp (tid_of rec))) (kept_now work) (at.none p.0)))
          (from_room (spent extra work.out.records) (total (kept_now work)) (own_bytes extra rec) keep work.room bytes j.within p.1))
