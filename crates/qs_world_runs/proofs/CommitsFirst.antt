-- A home commits only where the step noted nothing that forbids it: so what the step notes of the transaction comes after.
use Rattle.qs_world_runs.proofs.Words.{◌≡◌, inl, inr, ℕ, Bool, true, false, List, [], ◌∷◌, ◌++◌, Option, refl, sym, ap, subst, ◌∙◌, append_assoc, insert_entry, list_any, same_tid-true, same_tid, tid_cmp, Tid, Act, Cause, is_quiet, step_work, Event, Doings, Deeds, IsKeptSo, deeds_of, is_noted}
use Rattle.qs_base.specs.declared.identifiers.Outcome.{Outcome}
use Rattle.qs_base.specs.declared.identifiers.Outcome.TheVariants as outcomes
use Rattle.qs_book_journal.specs.declared.entry.Act.TheVariants as acts
use Rattle.qs_node_step.specs.State.{NodeValue}
use Rattle.qs_world_runs.specs.Deeds.{doings_in}
use Rattle.qs_world_runs.specs.Firsts.{CommitsFirst, CommitsSo, is_commit_of}
use Rattle.qs_world_runs.proofs.TraceStages.{step_done}
use Rattle.qs_world_runs.proofs.Unnoted.{asked_forbids, lends_unnoted, noted_unnoted, one_more, plain, prepared_unnoted, same_unnoted, served_forbids, still_unnoted, voted_forbids, yielded_forbids}

module _ (tid : Tid) where
  abbrev So : Deeds → Type 0
  So d = CommitsSo tid d

  more : (xs ys : List Act) → CommitsFirst tid xs → CommitsFirst tid (xs ++ ys)
  more xs ys c = record { before = c.before; cause = c.cause; after = c.after ++ ys; is = ap (λ (zs : List Act). zs ++ ys) c.is ∙ append_assoc c.before (acts.Decide tid outcomes.Commit c.cause ∷ c.after) ys; unnoted = c.unnoted }

  module _ (d e : Deeds) where
    same_so : e.trace.entries ≡ d.trace.entries → e.doings ≡ d.doings → So d → So e
    same_so p q (inl c) = inl (subst (CommitsFirst tid) (sym p) c)
    same_so p q (inr s) = inr (record { none = ap (list_any (is_commit_of tid)) p ∙ s.none; unnoted = same_unnoted tid d e p q s.unnoted })

    still_so : (act : Act) → e.trace.entries ≡ d.trace.entries ++ act ∷ [] → e.doings ≡ d.doings → is_noted tid act ≡ false → is_commit_of tid act ≡ false → So d → So e
    still_so act p q off shut (inl c) = inl (subst (CommitsFirst tid) (sym p) (more d.trace.entries (act ∷ []) c))
    still_so act p q off shut (inr s) = inr (record { none = ap (list_any (is_commit_of tid)) p ∙ one_more (is_commit_of tid) d.trace.entries act s.none shut; unnoted = still_unnoted tid d e act p q off s.unnoted })

    -- it is noted, and forbids it for the transaction of which it is
    noted_so : (t : Tid) (f : Doings → Doings) (act : Act) → e.trace.entries ≡ d.trace.entries ++ act ∷ [] → e.doings ≡ insert_entry tid_cmp d.doings t (f (doings_in t d)) → (same_tid t tid ≡ false → is_noted tid act ≡ false) → is_commit_of tid act ≡ false
        → ((o : Doings) → is_quiet (f o) ≡ false) → So d → So e
    noted_so t f act p q off shut forbids (inl c) = inl (subst (CommitsFirst tid) (sym p) (more d.trace.entries (act ∷ []) c))
    noted_so t f act p q off shut forbids (inr s) = inr (record { none = ap (list_any (is_commit_of tid)) p ∙ one_more (is_commit_of tid) d.trace.entries act s.none shut; unnoted = noted_unnoted tid d e t f act p q off forbids s.unnoted })

  decides_so : (d e : Deeds) (t : Tid) (outcome : Outcome) (cause : Option Cause) → e.trace.entries ≡ d.trace.entries ++ acts.Decide t outcome cause ∷ [] → e.doings ≡ d.doings → (outcome ≡ outcomes.Commit → is_quiet (doings_in t d) ≡ true) → So d → So e
  decides_so d e t outcomes.Abort cause p q quiet so = still_so d e (acts.Decide t outcomes.Abort cause) p q refl refl so
  decides_so d e t outcomes.Commit cause p q quiet (inl c) = inl (subst (CommitsFirst tid) (sym p) (more d.trace.entries (acts.Decide t outcomes.Commit cause ∷ []) c))
  decides_so d e t outcomes.Commit cause p q quiet (inr s) = by (same_tid t tid) refl
    where
      by : (b : Bool) → same_tid t tid ≡ b → So e
      by true same = inl (record {
        before = d.trace.entries;
        cause = cause;
        after = [];
        is = p ∙ ap (λ (x : Tid). d.trace.entries ++ acts.Decide x outcomes.Commit cause ∷ []) (same_tid-true t tid same);
        unnoted = s.unnoted.none (subst (λ (x : Tid). is_quiet (doings_in x d) ≡ true) (same_tid-true t tid same) (quiet refl));
      })
      by false apart = still_so d e (acts.Decide t outcomes.Commit cause) p q refl apart (inr s)

  lends_so : (d e : Deeds) (t : Tid) (act : Act) → e.trace.entries ≡ d.trace.entries ++ act ∷ [] → e.doings ≡ d.doings → (doings_in t d).served ≡ true → (same_tid t tid ≡ false → is_noted tid act ≡ false) → is_commit_of tid act ≡ false → So d → So e
  lends_so d e t act p q served off shut (inl c) = inl (subst (CommitsFirst tid) (sym p) (more d.trace.entries (act ∷ []) c))
  lends_so d e t act p q served off shut (inr s) = inr (record { none = ap (list_any (is_commit_of tid)) p ∙ one_more (is_commit_of tid) d.trace.entries act s.none shut; unnoted = lends_unnoted tid d e t act p q served off s.unnoted })

  so_kept : IsKeptSo So
  so_kept = record {
    enters = λ d act still so. let p = plain tid act still in still_so d _ act refl refl p.0 p.1 so;
    sends = λ d to message asks so. same_so d _ refl refl so;
    closes = λ d client command said there so. still_so d _ (acts.Answer client command.line.line said) refl refl refl refl so;
    begins = λ d line t there is so. still_so (record { trace = record d.trace { entries = d.trace.entries ++ acts.Begin t line.label line.client ∷ [] }; doings = d.doings }) _ _ refl refl refl refl
        (still_so d (record { trace = record d.trace { entries = d.trace.entries ++ acts.Begin t line.label line.client ∷ [] }; doings = d.doings }) (acts.Begin t line.label line.client) refl refl refl refl so);
    refuses = λ d line so. same_so d _ refl refl so;
    marks = λ d client issued so. same_so d _ refl refl so;
    issues = λ d t issuer member number op so. still_so d _ _ refl refl refl refl so;
    asks = λ d t label issuer member number op away so. still_so d _ _ refl refl refl refl so;
    queues = λ d server delivery own so. same_so d _ refl refl so;
    leaves = λ d server so. same_so d _ refl refl so;
    forgets = λ d t so. same_so d _ refl refl so;
    stales = λ d peer so. same_so d _ refl refl so;
    serves = λ d server delivery reply next so. noted_so d _ delivery.tid (λ doings. record doings { served = true }) _ refl refl (λ apart. apart) refl (λ o. served_forbids (record o { served = true }) refl) so;
    lends = λ d t client served so. lends_so d _ t (acts.Loan t client) refl refl served (λ apart. apart) refl so;
    commit_asked = λ d t so. noted_so d _ t (λ doings. record doings { asked = true }) (acts.Ask t) refl refl (λ apart. apart) refl asked_forbids so;
    votes = λ d t member ballot covers off so. noted_so d _ t (λ doings. record doings { voted = true }) (acts.Vote t member ballot covers) refl refl (λ apart. apart) refl voted_forbids so;
    prepares = prepared_so;
    yields = λ d t client so. noted_so d _ t (λ doings. record doings { yielded = true }) (acts.Yield t client) refl refl (λ apart. apart) refl yielded_forbids so;
    decides = λ d t outcome cause quiet so. decides_so d _ t outcome cause refl refl quiet so;
  }
    where
      prepared_so : (d : Deeds) (t : Tid) → So d → So (record d { doings = insert_entry tid_cmp d.doings t (record (doings_in t d) { prepared = true }) })
      prepared_so d t (inl c) = inl c
      prepared_so d t (inr s) = inr (record { none = s.none; unnoted = prepared_unnoted tid d t s.unnoted })

  -- a whole step
  pub commits_so : (node : NodeValue) (event : Event) (free : ℕ) → CommitsSo tid (deeds_of (step_work node event free))
  commits_so node event free = step_done So So so_kept so_kept node event free
      (record { lets = λ d so. so; comes = λ d line is so. same_so d _ refl refl so; learns = λ d peer t label member number issuer op is so. same_so d _ refl refl so; takes = λ d peer t label member number issuer op is so. same_so d _ refl refl so })
      (inr (record { none = refl; unnoted = record { none = λ quiet. refl } }))
