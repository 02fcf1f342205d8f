-- Where nothing that a step noted of a transaction forbids its commit, the step did none of what it would have noted.
use Rattle.qs_world_runs.proofs.Words.{◌≡◌, ◌||◌, not, Bool, true, false, List, [], ◌∷◌, ◌++◌, Option, Some, refl, sym, ap, subst, ◌∙◌, insert_entry, is_at, list_any, lookup, unwrap_or, list_any-append, same_tid-true, tid_exact, same_tid, tid_cmp, Tid, Act, at_exact, tid_itself, is_quiet, no_doings, Doings, Deeds, IsKeptSo, IsStill, is_noted}
use Rattle.qs_book_journal.specs.declared.entry.Act.TheVariants as acts
use Rattle.qs_book_laws.proofs.Maps.{lookup_put, lookup_put_apart}
use Rattle.qs_world_runs.specs.Deeds.{doings_in}
use Rattle.qs_world_runs.specs.Firsts.{Unnoted, is_commit_of}

-- ---- what forbids it

pub asked_forbids : (o : Doings) → is_quiet (record o { asked = true }) ≡ false
asked_forbids o = refl

served_so : (a b : Bool) → not ((a || true) || b) ≡ false
served_so true b = refl
served_so false b = refl

pub served_forbids : (o : Doings) → o.served ≡ true → is_quiet o ≡ false
served_forbids o is = rw is (served_so o.asked (o.voted || o.yielded))

voted_so : (a b : Bool) → not (a || (true || b)) ≡ false
voted_so true b = refl
voted_so false b = refl

pub voted_forbids : (o : Doings) → is_quiet (record o { voted = true }) ≡ false
voted_forbids o = voted_so (o.asked || o.served) o.yielded

yielded_so : (a b : Bool) → not (a || (b || true)) ≡ false
yielded_so true b = refl
yielded_so false true = refl
yielded_so false false = refl

pub yielded_forbids : (o : Doings) → is_quiet (record o { yielded = true }) ≡ false
yielded_forbids o = yielded_so (o.asked || o.served) o.voted

-- ---- what is entered

pub one_more : (f : Act → Bool) (xs : List Act) (act : Act) → list_any f xs ≡ false → f act ≡ false → list_any f (xs ++ act ∷ []) ≡ false
one_more f xs act none is = list_any-append f xs (act ∷ []) ∙ rw (none, is) refl

module _ (tid : Tid) where
  near_so : (t : Tid) → same_tid t tid ≡ true → is_at (tid_cmp tid) t ≡ true
  near_so t same = subst (λ (x : Tid). is_at (tid_cmp tid) x ≡ true) (sym (same_tid-true t tid same)) (rw (tid_itself tid) refl)

  far_so : (t : Tid) → is_at (tid_cmp tid) t ≡ false → same_tid t tid ≡ false
  far_so t far = by (same_tid t tid) refl
    where
      by : (b : Bool) → same_tid t tid ≡ b → same_tid t tid ≡ false
      by true same = absurd (let near : is_at (tid_cmp tid) t ≡ true = near_so t same in cc (near, far))
      by false apart = apart

  abbrev quiet_in : List (Tid × Doings) → Bool
  quiet_in ds = is_quiet (unwrap_or (lookup (is_at (tid_cmp tid)) ds) no_doings)

  module _ (d e : Deeds) where
    pub same_unnoted : e.trace.entries ≡ d.trace.entries → e.doings ≡ d.doings → Unnoted tid d → Unnoted tid e
    same_unnoted p q un = record { none = λ quiet. ap (list_any (is_noted tid)) p ∙ un.none (subst (λ (ds : List (Tid × Doings)). quiet_in ds ≡ true) q quiet) }

    pub still_unnoted : (act : Act) → e.trace.entries ≡ d.trace.entries ++ act ∷ [] → e.doings ≡ d.doings → is_noted tid act ≡ false → Unnoted tid d → Unnoted tid e
    still_unnoted act p q off un = record { none = λ quiet. ap (list_any (is_noted tid)) p ∙ one_more (is_noted tid) d.trace.entries act (un.none (subst (λ (ds : List (Tid × Doings)). quiet_in ds ≡ true) q quiet)) off }

    -- it is noted, and forbids it for the transaction of which it is
    pub noted_unnoted : (t : Tid) (f : Doings → Doings) (act : Act) → e.trace.entries ≡ d.trace.entries ++ act ∷ [] → e.doings ≡ insert_entry tid_cmp d.doings t (f (doings_in t d)) → (same_tid t tid ≡ false → is_noted tid act ≡ false)
        → ((o : Doings) → is_quiet (f o) ≡ false) → Unnoted tid d → Unnoted tid e
    noted_unnoted t f act p q off forbids un = record { none = λ quiet. ap (list_any (is_noted tid)) p ∙ by (is_at (tid_cmp tid) t) refl (subst (λ (ds : List (Tid × Doings)). quiet_in ds ≡ true) q quiet) }
      where
        by : (b : Bool) → is_at (tid_cmp tid) t ≡ b → quiet_in (insert_entry tid_cmp d.doings t (f (doings_in t d))) ≡ true → list_any (is_noted tid) (d.trace.entries ++ act ∷ []) ≡ false
        by true near quiet = absurd (let loud : is_quiet (f (doings_in t d)) ≡ false = forbids (doings_in t d) in
            let there : lookup (is_at (tid_cmp tid)) (insert_entry tid_cmp d.doings t (f (doings_in t d))) ≡ Some (f (doings_in t d)) =
            subst (λ (x : Tid). lookup (is_at (tid_cmp x)) (insert_entry tid_cmp d.doings t (f (doings_in t d))) ≡ Some (f (doings_in t d))) (sym (at_exact tid t near)) (lookup_put tid_cmp t (f (doings_in t d)) (tid_itself t) d.doings) in
            let its : is_quiet (f (doings_in t d)) ≡ true = subst (λ (o : Option Doings). is_quiet (unwrap_or o no_doings) ≡ true) there quiet in cc (loud, its))
        by false far quiet = one_more (is_noted tid) d.trace.entries act (un.none (subst (λ (o : Option Doings). is_quiet (unwrap_or o no_doings) ≡ true) (lookup_put_apart tid_cmp t (f (doings_in t d)) (λ x. tid_exact t x) (is_at (tid_cmp tid)) far d.doings) quiet)) (off (far_so t far))

    -- a loan comes behind what was served
    pub lends_unnoted : (t : Tid) (act : Act) → e.trace.entries ≡ d.trace.entries ++ act ∷ [] → e.doings ≡ d.doings → (doings_in t d).served ≡ true → (same_tid t tid ≡ false → is_noted tid act ≡ false) → Unnoted tid d → Unnoted tid e
    lends_unnoted t act p q served off un = by (same_tid t tid) refl
      where
        by : (b : Bool) → same_tid t tid ≡ b → Unnoted tid e
        by false apart = still_unnoted act p q (off apart) un
        by true same = record {
          none = λ quiet. absurd (let loud : is_quiet (doings_in tid d) ≡ false = served_forbids (doings_in tid d) (subst (λ (x : Tid). (doings_in x d).served ≡ true) (same_tid-true t tid same) served) in
              let its : is_quiet (doings_in tid d) ≡ true = subst (λ (ds : List (Tid × Doings)). quiet_in ds ≡ true) q quiet in cc (loud, its));
        }

  pub prepared_unnoted : (d : Deeds) (t : Tid) → Unnoted tid d → Unnoted tid (record d { doings = insert_entry tid_cmp d.doings t (record (doings_in t d) { prepared = true }) })
  prepared_unnoted d t un = record { none = λ quiet. un.none (by (is_at (tid_cmp tid) t) refl quiet) }
    where
      by : (b : Bool) → is_at (tid_cmp tid) t ≡ b → quiet_in (insert_entry tid_cmp d.doings t (record (doings_in t d) { prepared = true })) ≡ true → is_quiet (doings_in tid d) ≡ true
      by true near quiet = subst (λ (x : Tid). is_quiet (doings_in x d) ≡ true) (sym (at_exact tid t near)) (subst (λ (o : Option Doings). is_quiet (unwrap_or o no_doings) ≡ true)
          (subst (λ (x : Tid). lookup (is_at (tid_cmp x)) (insert_entry tid_cmp d.doings t (record (doings_in t d) { prepared = true })) ≡ Some (record (doings_in t d) { prepared = true })) (sym (at_exact tid t near)) (lookup_put tid_cmp t (record (doings_in t d) { prepared = true }) (tid_itself t) d.doings)) quiet)
      by false far quiet = subst (λ (o : Option Doings). is_quiet (unwrap_or o no_doings) ≡ true) (lookup_put_apart tid_cmp t (record (doings_in t d) { prepared = true }) (λ x. tid_exact t x) (is_at (tid_cmp tid)) far d.doings) quiet

  pub plain : (act : Act) → IsStill act → (is_noted tid act ≡ false) × (is_commit_of tid act ≡ false)
  plain (acts.Begin t label client) still = absurd still
  plain (acts.Issue t issuer member number op) still = absurd still
  plain (acts.Serve t member from number reply) still = absurd still
  plain (acts.Ask t) still = absurd still
  plain (acts.Vote t member ballot covers) still = absurd still
  plain (acts.Counted t peer up_to) still = (refl, refl)
  plain (acts.Decide t outcome cause) still = absurd still
  plain (acts.Ending t member) still = (refl, refl)
  plain (acts.Learn t member outcome) still = (refl, refl)
  plain (acts.Answer client line said) still = absurd still
  plain (acts.Loan t client) still = absurd still
  plain (acts.Yield t client) still = absurd still
  plain acts.Tick still = (refl, refl)
  plain (acts.Crash cause) still = absurd still
  plain (acts.Restart inc pend done) still = absurd still

-- ---- through all that rules do

abbrev pub AllUnnoted : Deeds → Type 0
AllUnnoted d = (tid : Tid) → Unnoted tid d

pub unnoted_kept : IsKeptSo AllUnnoted
unnoted_kept = record {
  enters = λ d act still un tid. still_unnoted tid d _ act refl refl (plain tid act still).0 (un tid);
  sends = λ d to message asks un tid. same_unnoted tid d _ refl refl (un tid);
  closes = λ d client command said there un tid. still_unnoted tid d _ (acts.Answer client command.line.line said) refl refl refl (un tid);
  begins = λ d line t there is un tid. still_unnoted tid (record { trace = record d.trace { entries = d.trace.entries ++ acts.Begin t line.label line.client ∷ [] }; doings = d.doings }) _ _ refl refl refl
      (still_unnoted tid d (record { trace = record d.trace { entries = d.trace.entries ++ acts.Begin t line.label line.client ∷ [] }; doings = d.doings }) (acts.Begin t line.label line.client) refl refl refl (un tid));
  refuses = λ d line un tid. same_unnoted tid d _ refl refl (un tid);
  marks = λ d client issued un tid. same_unnoted tid d _ refl refl (un tid);
  issues = λ d t issuer member number op un tid. still_unnoted tid d _ _ refl refl refl (un tid);
  asks = λ d t label issuer member number op away un tid. still_unnoted tid d _ _ refl refl refl (un tid);
  queues = λ d server delivery own un tid. same_unnoted tid d _ refl refl (un tid);
  leaves = λ d server un tid. same_unnoted tid d _ refl refl (un tid);
  forgets = λ d t un tid. same_unnoted tid d _ refl refl (un tid);
  stales = λ d peer un tid. same_unnoted tid d _ refl refl (un tid);
  serves = λ d server delivery reply next un tid. noted_unnoted tid d _ delivery.tid (λ doings. record doings { served = true }) _ refl refl (λ apart. apart) (λ o. served_forbids (record o { served = true }) refl) (un tid);
  lends = λ d t client served un tid. lends_unnoted tid d _ t (acts.Loan t client) refl refl served (λ apart. apart) (un tid);
  commit_asked = λ d t un tid. noted_unnoted tid d _ t (λ doings. record doings { asked = true }) (acts.Ask t) refl refl (λ apart. apart) asked_forbids (un tid);
  votes = λ d t member ballot covers off un tid. noted_unnoted tid d _ t (λ doings. record doings { voted = true }) (acts.Vote t member ballot covers) refl refl (λ apart. apart) voted_forbids (un tid);
  prepares = λ d t un tid. prepared_unnoted tid d t (un tid);
  yields = λ d t client un tid. noted_unnoted tid d _ t (λ doings. record doings { yielded = true }) (acts.Yield t client) refl refl (λ apart. apart) yielded_forbids (un tid);
  decides = λ d t outcome cause quiet un tid. still_unnoted tid d _ (acts.Decide t outcome cause) refl refl refl (un tid);
}
