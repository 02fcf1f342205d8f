-- A node that opens over a log whose records fit is tidy, and has only taken up what the log left open.
use Rattle.qs_world_refine.proofs.Words.{◌≡◌, inl, inr, ℕ, ◌≤◌, ◌<◌, ◌==◌, ◌&&◌, ◌||◌, not, Bool, true, false, List, [], ◌∷◌, ◌++◌, fold, Option, Some, None, is_some, is_none, refl, sym, ap, subst, ◌∙◌, arith, if◌then◌else◌, nat_tests, ◌⊎◌, list_all, list_any, find, Global, same_tid, NodeNo, Tid, same_node, is_outcome_of, Decided, Kept, Recovery, in_doubt, names_transaction, kept_outcome, recovered_as, opened_node, NodeValue, Participant, began_here, in_order, where_so, same_flag, is_owned}
use Rattle.qs_world_refine.proofs.Words.{is_owned_label, Stage, IsStage, IsTidyNode, IsCrossed, is_settled, is_tidy_part, is_tidy_label, is_tidy_loan, is_tidy_outcome, or_left}
use Rattle.qs_base.specs.declared.identifiers.Outcome.{Outcome}
use Rattle.qs_base.specs.declared.identifiers.Outcome.TheVariants as outcomes
use Rattle.qs_node_kept.specs.declared.kept.KeptLabel.{KeptLabel}
use Rattle.qs_node_step.specs.Opening.{opened_servers, outcome_in_log, is_left_open, close_tid, close_outcome}
use Rattle.qs_tm.specs.Manager as tm
use Rattle.qs_world_refine.specs.Steadies.{IsFirst}
use Rattle.qs_world_refine.proofs.Entries.{none_found}
use Rattle.qs_world_refine.proofs.SaidTidy.{IsSaidTidy}
use Rattle.qs_world_refine.proofs.SoundBegin.{all_put, all_last}
use Rattle.qs_world_refine.proofs.SoundParts.{and_both, both_and, all_found}
use Rattle.qs_world_refine.proofs.TakenCommits.{opened_logged}
use Rattle.qs_world_refine.proofs.TidyTaken.{IsTakenFrom, opened_taken, changes_kinds, opened_kinds}

-- ---- what is kept for clients: what a label names that began here, and is not decided, the log decides

outcome_found : (committed : List Tid) (tid : Tid) → is_outcome_of tid (outcome_in_log committed tid) ≡ true
outcome_found committed tid = by (list_any (same_tid tid) committed)
  where
    by : (b : Bool) → is_outcome_of tid (if b then record { tid = tid; outcome = outcomes.Commit; cause = None } else record { tid = tid; outcome = outcomes.Abort; cause = Some (Rattle.qs_ops.specs.declared.answer.Cause.TheVariants.Home tid.inc) }) ≡ true
    by true = grind (arith, nat_tests)
    by false = grind (arith, nat_tests)

outcome_tid : (committed : List Tid) (tid : Tid) → (outcome_in_log committed tid).tid ≡ tid
outcome_tid committed tid = by (list_any (same_tid tid) committed)
  where
    decided : Bool → Decided
    decided b = if b then record { tid = tid; outcome = outcomes.Commit; cause = None } else record { tid = tid; outcome = outcomes.Abort; cause = Some (Rattle.qs_ops.specs.declared.answer.Cause.TheVariants.Home tid.inc) }

    by : (b : Bool) → (decided b).tid ≡ tid
    by true = refl
    by false = refl

some_found : {X : Type 0} (p : X → Bool) (xs ys : List X) → is_some (find p xs) ≡ true → is_some (find p (xs ++ ys)) ≡ true
some_found p [] ys is = absurd (cc (is))
some_found p (x ∷ xs) ys is = by (p x) refl (some_found p xs ys)
  where
    by : (b : Bool) → p x ≡ b → (is_some (find p xs) ≡ true → is_some (find p (xs ++ ys)) ≡ true) → is_some (find p ((x ∷ xs) ++ ys)) ≡ true
    by true it more = rw it refl
    by false it more = rw it (more (rw it at is))

last_found : {X : Type 0} (p : X → Bool) (xs : List X) (x : X) → p x ≡ true → is_some (find p (xs ++ x ∷ [])) ≡ true
last_found p [] x is = rw is refl
last_found p (y ∷ xs) x is = by (p y) refl (last_found p xs x is)
  where
    by : (b : Bool) → p y ≡ b → is_some (find p (xs ++ x ∷ [])) ≡ true → is_some (find p ((y ∷ xs) ++ x ∷ [])) ≡ true
    by true it more = rw it refl
    by false it more = rw it more

module _ (me : NodeNo) (committed : List Tid) where
  -- what was found is found still
  one_stays : (t : Tid) (outcomes : List Decided) (begun : KeptLabel) → is_some (find (is_outcome_of t) outcomes) ≡ true → is_some (find (is_outcome_of t) (close_outcome me committed outcomes begun)) ≡ true
  one_stays t outcomes begun is = by begun.tid
    where
      at : (tid : Tid) (b : Bool) → is_some (find (is_outcome_of t) (if b then outcomes ++ outcome_in_log committed tid ∷ [] else outcomes)) ≡ true
      at tid true = some_found (is_outcome_of t) outcomes (outcome_in_log committed tid ∷ []) is
      at tid false = is

      by : (o : Option Tid) → is_some (find (is_outcome_of t) (close_tid me committed outcomes o)) ≡ true
      by None = is
      by (Some tid) = at tid (is_left_open me outcomes tid)

  pub all_stay : (t : Tid) (labels : List KeptLabel) (outcomes : List Decided) → is_some (find (is_outcome_of t) outcomes) ≡ true → is_some (find (is_outcome_of t) (fold (close_outcome me committed) outcomes labels)) ≡ true
  all_stay t [] outcomes is = is
  all_stay t (begun ∷ labels) outcomes is = all_stay t labels (close_outcome me committed outcomes begun) (one_stays t outcomes begun is)

  -- what began here is decided then
  closed_here : (t : Tid) (outcomes : List Decided) → same_node t.home me ≡ true → is_some (find (is_outcome_of t) (close_tid me committed outcomes (Some t))) ≡ true
  closed_here t outcomes home = by (find (is_outcome_of t) outcomes) refl
    where
      by : (o : Option Decided) → find (is_outcome_of t) outcomes ≡ o → is_some (find (is_outcome_of t) (if same_node t.home me && is_none o then outcomes ++ outcome_in_log committed t ∷ [] else outcomes)) ≡ true
      by None none = rw home (last_found (is_outcome_of t) outcomes (outcome_in_log committed t) (outcome_found committed t))
      by (Some d) found = rw home (ap (λ (o : Option Decided). is_some o) found)

module _ (c : Stage) (stage : IsStage c) (committed : List Tid) where
  abbrev close : List Decided → KeptLabel → List Decided
  close = close_outcome c.setting.node committed

  -- all that is kept are outcomes of what began here
  one_tidy : (outcomes : List Decided) (begun : KeptLabel) → is_tidy_label c begun ≡ true → list_all (is_tidy_outcome c) outcomes ≡ true → list_all (is_tidy_outcome c) (close outcomes begun) ≡ true
  one_tidy outcomes begun label all = by begun.tid label
    where
      at : (tid : Tid) → c.begun tid ≡ true → (b : Bool) → is_left_open c.setting.node outcomes tid ≡ b → list_all (is_tidy_outcome c) (if b then outcomes ++ outcome_in_log committed tid ∷ [] else outcomes) ≡ true
      at tid begun true open_now = all_last (is_tidy_outcome c) outcomes (outcome_in_log committed tid) all
          (subst (λ (t : Tid). (c.past t && same_node t.home c.setting.node) ≡ true) (sym (outcome_tid committed tid)) (both_and (c.past tid) _ (stage.inside tid begun).0 (and_both (same_node tid.home c.setting.node) _ open_now).0))
      at tid begun false open_now = all

      by : (o : Option Tid) → elim o [ None ↦ true | Some tid ↦ c.begun tid && where_so (is_some begun.owner) (same_node tid.home c.setting.node) ] ≡ true → list_all (is_tidy_outcome c) (close_tid c.setting.node committed outcomes o) ≡ true
      by None its = all
      by (Some tid) its = at tid (and_both (c.begun tid) _ its).0 (is_left_open c.setting.node outcomes tid) refl

  pub outcomes_tidy : (labels : List KeptLabel) (outcomes : List Decided) → list_all (is_tidy_label c) labels ≡ true → list_all (is_tidy_outcome c) outcomes ≡ true → list_all (is_tidy_outcome c) (fold close outcomes labels) ≡ true
  outcomes_tidy [] outcomes tidy all = all
  outcomes_tidy (begun ∷ labels) outcomes tidy all = let both : (is_tidy_label c begun ≡ true) × (list_all (is_tidy_label c) labels ≡ true) = and_both (is_tidy_label c begun) _ tidy in outcomes_tidy labels (close outcomes begun) both.1 (one_tidy outcomes begun both.0 all)

  -- what a client owns is decided
  abbrev is_closed : List Decided → KeptLabel → Bool
  is_closed outcomes begun = not (is_some begun.owner) || elim begun.tid [ None ↦ true | Some tid ↦ is_some (find (is_outcome_of tid) outcomes) ]

  closed_stays : (labels : List KeptLabel) (outcomes : List Decided) (begun : KeptLabel) → is_closed outcomes begun ≡ true → is_closed (fold close outcomes labels) begun ≡ true
  closed_stays labels outcomes begun is = by (is_some begun.owner) begun.tid is
    where
      by : (b : Bool) (o : Option Tid) → (not b || elim o [ None ↦ true | Some tid ↦ is_some (find (is_outcome_of tid) outcomes) ]) ≡ true → (not b || elim o [ None ↦ true | Some tid ↦ is_some (find (is_outcome_of tid) (fold close outcomes labels)) ]) ≡ true
      by true None its = refl
      by true (Some tid) its = all_stay c.setting.node committed tid labels outcomes its
      by false o its = refl

  closed_now : (outcomes : List Decided) (begun : KeptLabel) → is_tidy_label c begun ≡ true → is_closed (close outcomes begun) begun ≡ true
  closed_now outcomes begun label = at begun.tid refl (is_some begun.owner) refl label
    where
      at : (o : Option Tid) → begun.tid ≡ o → (b : Bool) → is_some begun.owner ≡ b → elim o [ None ↦ true | Some tid ↦ c.begun tid && where_so b (same_node tid.home c.setting.node) ] ≡ true
          → (not b || elim o [ None ↦ true | Some tid ↦ is_some (find (is_outcome_of tid) (close_tid c.setting.node committed outcomes begun.tid)) ]) ≡ true
      at None is true owned its = refl
      at (Some tid) is true owned its = subst (λ (o : Option Tid). is_some (find (is_outcome_of tid) (close_tid c.setting.node committed outcomes o)) ≡ true) (sym is) (closed_here c.setting.node committed tid outcomes (and_both (c.begun tid) _ its).1)
      at o is false owned its = refl

  pub all_closed : (labels : List KeptLabel) (outcomes : List Decided) → list_all (is_tidy_label c) labels ≡ true → list_all (is_closed (fold close outcomes labels)) labels ≡ true
  all_closed [] outcomes tidy = refl
  all_closed (begun ∷ labels) outcomes tidy = let both : (is_tidy_label c begun ≡ true) × (list_all (is_tidy_label c) labels ≡ true) = and_both (is_tidy_label c begun) _ tidy in
      both_and (is_closed (fold close (close outcomes begun) labels) begun) _ (closed_stays labels (close outcomes begun) begun (closed_now outcomes begun both.0)) (all_closed labels (close outcomes begun) both.1)

-- what is decided, and is one of the log's commits if it is one
settled_by : (o : Option Outcome) (logged : Bool) → is_some o ≡ true → (o ≡ Some outcomes.Commit → logged ≡ true) → is_settled o logged ≡ true
settled_by None logged some its = absurd (cc (some))
settled_by (Some outcomes.Commit) logged some its = its refl
settled_by (Some outcomes.Abort) logged some its = refl

-- ---- the node

module _ (c : Stage) (stage : IsStage c) (none : c.count ≡ 0) (alloc : Global) (said : Recovery) (fits : IsSaidTidy c.past c.setting.node said) (kept : Kept)
    (labels : list_all (is_tidy_label c) kept.labels ≡ true) (loans : list_all (is_tidy_loan c) kept.loans ≡ true) (outcomes : list_all (is_tidy_outcome c) kept.outcomes ≡ true) where
  abbrev opened : NodeValue
  opened = opened_node alloc c.setting (recovered_as said) kept

  from : IsTakenFrom c opened.manager
  from = opened_taken c alloc said fits

  tidy_outcomes : list_all (is_tidy_outcome c) opened.kept.now.outcomes ≡ true
  tidy_outcomes = outcomes_tidy c stage said.committed kept.labels kept.outcomes labels outcomes

  past_of : (t : Tid) (part : Participant) → tm.part_of t opened.manager ≡ Some part → (c.past t ≡ true) × (same_flag part.engage.home (same_node t.home c.setting.node) ≡ true)
  past_of t part known = and_both (c.past t) _ (and_both (c.past t && same_flag part.engage.home (same_node t.home c.setting.node)) _ (all_found t (is_tidy_part c) opened.manager.known part known from.known)).0

  -- nothing of this incarnation is known
  earlier : (t : Tid) → c.past t ≡ true → began_here opened t ≡ true → false ≡ true
  earlier t past here =
      let both : (same_node t.home c.setting.node ≡ true) × ((t.inc == c.setting.inc) ≡ true) = and_both (same_node t.home c.setting.node) (t.inc == c.setting.inc) here in
      let own : (names_transaction t ≡ true) × ((t.inc < c.setting.inc) ⊎ ((t.inc ≡ c.setting.inc) × (t.seq ≤ c.count))) = stage.own t past both.0 in
      by own.0 both.1 own.1
    where
      by : names_transaction t ≡ true → (t.inc == c.setting.inc) ≡ true → (t.inc < c.setting.inc) ⊎ ((t.inc ≡ c.setting.inc) × (t.seq ≤ c.count)) → false ≡ true
      by names same (inl less) = absurd (grind (arith, nat_tests, same, less))
      by names same (inr given) = let low : t.seq ≤ c.count = given.1 in absurd (grind (arith, nat_tests, names, low, none))

  owns : (begun : KeptLabel) → is_closed c stage said.committed opened.kept.now.outcomes begun ≡ true → is_owned_label opened begun ≡ true
  owns begun is = by (is_some begun.owner) begun.tid is
    where
      by : (b : Bool) (o : Option Tid) → (not b || elim o [ None ↦ true | Some tid ↦ is_some (find (is_outcome_of tid) opened.kept.now.outcomes) ]) ≡ true → (not b || elim o [ None ↦ true | Some tid ↦ is_owned opened tid ]) ≡ true
      by true None its = refl
      by true (Some tid) its = or_left (is_some (kept_outcome tid opened)) _ its
      by false o its = refl

  off : (d : Decided) (t : Tid) → same_node t.home c.setting.node ≡ false → is_tidy_outcome c d ≡ true → is_outcome_of t d ≡ false
  off d t away its = let homed : same_node d.tid.home c.setting.node ≡ true = (and_both (c.past d.tid) _ its).1 in grind (arith, nat_tests, homed, away)

  free : (t : Tid) (part : Participant) → tm.part_of t opened.manager ≡ Some part → part.outcome ≡ None → (b : Bool) → same_node t.home c.setting.node ≡ b → kept_outcome t opened ≡ None
  free t part known open_now true home = absurd (
      let on : part.engage.home ≡ true = flagged part.engage.home (same_node t.home c.setting.node) (past_of t part known).1 home in
      let some : is_some part.outcome ≡ true = from.homed t part known on in
      let no : is_some part.outcome ≡ false = ap (λ (o : Option Outcome). is_some o) open_now in cc (some, no))
    where
      flagged : (a b : Bool) → same_flag a b ≡ true → b ≡ true → a ≡ true
      flagged true b is so = refl
      flagged false true is so = absurd (cc (is))
      flagged false false is so = absurd (cc (so))
  free t part known open_now false away = none_found (is_outcome_of t) (is_tidy_outcome c) (λ d. off d t away) opened.kept.now.outcomes tidy_outcomes

  crossed : IsCrossed opened
  crossed = record {
    owned = Rattle.qs_world_refine.proofs.SoundBegin.all_implied (is_closed c stage said.committed opened.kept.now.outcomes) (is_owned_label opened) owns kept.labels (all_closed c stage said.committed kept.labels kept.outcomes labels);
    commits = λ t part known here its. absurd (let never : false ≡ true = earlier t (past_of t part known).0 here in cc (never));
    fresh = λ t part known open_now. free t part known open_now (same_node t.home c.setting.node) refl;
    earlier = λ t part known home later. settled_by part.outcome (list_any (same_tid t) said.committed) (decided t part known home) (λ is. opened_logged (λ (u : Tid). list_any (same_tid u) said.committed) alloc c.setting said fits.logged t part known is);
    pasts = λ t here names low. absurd (let never : false ≡ true = numbered t names (subst (λ (k : ℕ). t.seq ≤ k) from.none low) in cc (never));
  }
    where
      decided : (t : Tid) (part : Participant) → tm.part_of t opened.manager ≡ Some part → same_node t.home c.setting.node ≡ true → is_some part.outcome ≡ true
      decided t part known home = from.homed t part known (flagged part.engage.home (same_node t.home c.setting.node) (past_of t part known).1 home)
        where
          flagged : (a b : Bool) → same_flag a b ≡ true → b ≡ true → a ≡ true
          flagged true b is so = refl
          flagged false true is so = absurd (cc (is))
          flagged false false is so = absurd (cc (so))

      numbered : (t : Tid) → names_transaction t ≡ true → t.seq ≤ 0 → false ≡ true
      numbered t names low = absurd (grind (arith, nat_tests, names, low))

  pub opened_tidy : in_order opened.manager.known ≡ true → IsTidyNode c opened
  opened_tidy ordered = record {
    setting = refl;
    own = from.own;
    inc = from.inc;
    count = from.none ∙ sym none;
    ordered = ordered;
    known = from.known;
    apart = refl;
    waiting = refl;
    labels = labels;
    loans = loans;
    outcomes = tidy_outcomes;
    commands = refl;
    committed = fits.committed;
    kinds = changes_kinds (in_doubt said) (opened_servers c.setting.quota (recovered_as said)) (opened_kinds c.setting.quota said);
    crossed = crossed;
  }

  pub opened_first : IsFirst opened
  opened_first = record { parts = from.parts; queues = refl }
