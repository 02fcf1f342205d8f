-- A node that rises over a log that reads alike is the same, but for the Commits that it knows of; and its restart does the same.
use Rattle.std.proofs.Common.{◌≡◌, ◌∙◌, map, Bool, true, false, List, [], ◌∷◌, ◌++◌, refl, sym, ap, subst, fold, Option, Some, None, append-nil}
use Rattle.std.specs.Prelude.{not, ◌&&◌, is_none, if◌then◌else◌}
use Rattle.std.specs.Global.{Global}
use Rattle.std.specs.List.{find, list_any, list_all}
use Rattle.std.proofs.lemmas.Bool.{not-true, not_from_false}
use Rattle.qs_base.specs.Order.{same_tid}
use Rattle.qs_base.specs.declared.identifiers.NodeNo.{NodeNo}
use Rattle.qs_base.specs.declared.identifiers.Tid.{Tid}
use Rattle.qs_base.proofs.Same.{same_tid-true}
use Rattle.qs_base_lemmas.proofs.Tests.{and_first, and_last, never_both}
use Rattle.qs_ops.specs.Table.{no_table, applied, TableValue}
use Rattle.qs_ops.specs.Timers.{no_timers}
use Rattle.qs_ops.specs.declared.server.ServerKind.TheVariants as kinds
use Rattle.qs_record.specs.declared.record.Record.{Record}
use Rattle.qs_book_journal.specs.declared.entry.Found.{Found}
use Rattle.qs_book_machine.specs.Restart.{broken_restart, restart}
use Rattle.qs_engage.specs.Nodes.{same_node}
use Rattle.qs_restart.specs.Recovery.{Recovery, open_votes}
use Rattle.qs_restart.specs.declared.recovered.Recovered.{Recovered}
use Rattle.qs_restart_state.specs.Alike.{ReadsAlike, is_among}
use Rattle.qs_restart_state.proofs.Lists.{any_filtered, filter_of_mapped}
use Rattle.qs_restart_state.proofs.Taken.{finds_same}
use Rattle.qs_node_kept.specs.Keeping.{kept_as, is_outcome_of}
use Rattle.qs_node_kept.specs.declared.kept.KeptLabel.{KeptLabel}
use Rattle.qs_node_kept.specs.declared.kept.Decided.{Decided}
use Rattle.qs_node_kept.specs.declared.kept.Kept.{Kept}
use Rattle.qs_node_servers.specs.Servers.{ServersValue}
use Rattle.qs_node_step.specs.State.{NodeValue}
use Rattle.qs_node_step.specs.Opening.{opened_server, opened_servers, keep_changes, outcome_in_log, is_left_open, close_tid, close_outcome, closed_kept, opened_node, take_up, new_manager, recovered_as}
use Rattle.qs_node_step.specs.declared.setting.Setting.{Setting}
use Rattle.qs_world_forgetting.specs.Rising.{EachRestartIsSame, EachRisesSame, found_of, is_closed}
use Rattle.qs_world_forgetting.specs.ThinRestarts.{IsThinner, left_of}
use Rattle.qs_world_forgetting.proofs.ThinRestarts.{each_thin_restart}

-- ---- outcomes of what was begun here

-- what is found stays found as more comes behind it
found_still : {A : Type 0} (p : A → Bool) (xs ys : List A) → is_none (find p xs) ≡ false → is_none (find p (xs ++ ys)) ≡ false
found_still p [] ys h = absurd (cc h)
found_still {A = A} p (x ∷ xs) ys h = by (p x) refl (λ k. found_still p xs ys k)
  where
    miss : (zs : List A) → p x ≡ false → find p (x ∷ zs) ≡ find p zs
    miss zs is = rw is refl

    hit : (zs : List A) → p x ≡ true → find p (x ∷ zs) ≡ Some x
    hit zs is = rw is refl

    by : (b : Bool) → p x ≡ b → (is_none (find p xs) ≡ false → is_none (find p (xs ++ ys)) ≡ false) → is_none (find p (x ∷ (xs ++ ys))) ≡ false
    by true is more = ap is_none (hit (xs ++ ys) is)
    by false is more = ap is_none (miss (xs ++ ys) is) ∙ more (sym (ap is_none (miss xs is)) ∙ h)

and_zero : (a b c : Bool) → (b ≡ false → c ≡ false) → (a && b) ≡ false → (a && c) ≡ false
and_zero false b c h k = refl
and_zero true b c h k = h k

module _ (node : NodeNo) (over : Tid → Bool) (full thin : List Tid)
    (alike : (t : Tid) → over t ≡ false → list_any (same_tid t) thin ≡ list_any (same_tid t) full) where
  stays_closed : (outcomes more : List Decided) (begun : KeptLabel) → is_closed node over outcomes begun ≡ true → is_closed node over (outcomes ++ more) begun ≡ true
  stays_closed outcomes more begun h = by begun.tid h
    where
      by : (o : Option Tid) → (elim o [ None ↦ true | Some t ↦ not (over t && is_left_open node outcomes t) ]) ≡ true → (elim o [ None ↦ true | Some t ↦ not (over t && is_left_open node (outcomes ++ more) t) ]) ≡ true
      by None h = refl
      by (Some t) h = not_from_false _ (and_zero (over t) (is_left_open node outcomes t) (is_left_open node (outcomes ++ more) t)
          (and_zero (same_node t.home node) (is_none (find (is_outcome_of t) outcomes)) (is_none (find (is_outcome_of t) (outcomes ++ more))) (found_still (is_outcome_of t) outcomes more))
          (not-true _ h))

  all_closed : (outcomes more : List Decided) (labels : List KeptLabel) → list_all (is_closed node over outcomes) labels ≡ true → list_all (is_closed node over (outcomes ++ more)) labels ≡ true
  all_closed outcomes more [] h = refl
  all_closed outcomes more (l ∷ labels) h = by (is_closed node over outcomes l) (list_all (is_closed node over outcomes) labels) h (stays_closed outcomes more l) (all_closed outcomes more labels)
    where
      by : (a b : Bool) → (a && b) ≡ true → (a ≡ true → is_closed node over (outcomes ++ more) l ≡ true) → (b ≡ true → list_all (is_closed node over (outcomes ++ more)) labels ≡ true) → (is_closed node over (outcomes ++ more) l && list_all (is_closed node over (outcomes ++ more)) labels) ≡ true
      by true b h p q = rw (p refl) (q h)
      by false b h p q = absurd (cc h)

  said_same : (t : Tid) → over t ≡ false → outcome_in_log thin t ≡ outcome_in_log full t
  said_same t off = rw (alike t off) refl

  tid_same : (outcomes : List Decided) (o : Option Tid) → (elim o [ None ↦ true | Some t ↦ not (over t && is_left_open node outcomes t) ]) ≡ true → close_tid node thin outcomes o ≡ close_tid node full outcomes o
  tid_same outcomes None h = refl
  tid_same outcomes (Some t) h = by (is_left_open node outcomes t) refl (over t) refl h
    where
      by : (a : Bool) → is_left_open node outcomes t ≡ a → (b : Bool) → over t ≡ b → not (b && a) ≡ true → (if a then outcomes ++ outcome_in_log thin t ∷ [] else outcomes) ≡ (if a then outcomes ++ outcome_in_log full t ∷ [] else outcomes)
      by false is b on h = refl
      by true is true on h = absurd (cc h)
      by true is false on h = ap (λ (d : Decided). outcomes ++ d ∷ []) (said_same t on)

  grows : (outcomes : List Decided) (o : Option Tid) → (more : List Decided) × (close_tid node full outcomes o ≡ outcomes ++ more)
  grows outcomes None = ([], sym (append-nil outcomes))
  grows outcomes (Some t) = by (is_left_open node outcomes t)
    where
      by : (a : Bool) → (more : List Decided) × ((if a then outcomes ++ outcome_in_log full t ∷ [] else outcomes) ≡ outcomes ++ more)
      by true = (outcome_in_log full t ∷ [], refl)
      by false = ([], sym (append-nil outcomes))

  labels_same : (labels : List KeptLabel) (outcomes : List Decided) → list_all (is_closed node over outcomes) labels ≡ true → fold (close_outcome node thin) outcomes labels ≡ fold (close_outcome node full) outcomes labels
  labels_same [] outcomes h = refl
  labels_same (l ∷ labels) outcomes h =
      let w = grows outcomes l.tid in
      ap (λ (d : List Decided). fold (close_outcome node thin) d labels) (tid_same outcomes l.tid (and_first (is_closed node over outcomes l) _ h))
      ∙ labels_same labels (close_tid node full outcomes l.tid) (ap (λ (d : List Decided). list_all (is_closed node over d) labels) w.1 ∙ all_closed outcomes w.0 labels (and_last (is_closed node over outcomes l) _ h))

-- ---- the node

module _ (alloc : Global) (setting : Setting) (kept : Kept) (over : Tid → Bool) (full thin : Recovered)
    (files : applied no_table full.files ≡ applied no_table thin.files)
    (audit : applied no_table full.audit ≡ applied no_table thin.audit)
    (doubts : thin.in_doubt ≡ full.in_doubt) (commits : thin.untold ≡ full.untold)
    (alike : (t : Tid) → over t ≡ false → list_any (same_tid t) thin.committed ≡ list_any (same_tid t) full.committed)
    (closed : list_all (is_closed setting.node over kept.outcomes) kept.labels ≡ true) where
  with_tables : TableValue → TableValue → ServersValue
  with_tables f a = record {
    files = record { kind = kinds.Files setting.quota; table = f; timers = no_timers };
    audit = record { kind = kinds.Audit; table = a; timers = no_timers };
    names = opened_server kinds.Names [];
    timers = opened_server kinds.Timers [];
    windows = opened_server kinds.Windows [];
    scratch = opened_server kinds.Scratch [];
    extra = opened_server kinds.Nothing [];
  }

  servers_same : opened_servers setting.quota thin ≡ opened_servers setting.quota full
  unfolding with_tables
  servers_same = ap (λ (f : TableValue). with_tables f (applied no_table thin.audit)) (sym files) ∙ ap (λ (a : TableValue). with_tables (applied no_table full.files) a) (sym audit)

  kept_same : closed_kept setting.node thin kept ≡ closed_kept setting.node full kept
  kept_same = ap (λ (d : List Decided). record kept { outcomes = d }) (labels_same setting.node over full.committed thin.committed alike kept.labels kept.outcomes closed)

  made : List Record → List Record → ServersValue → Kept → NodeValue
  made in_doubt untold servers closed_one = record {
    setting = setting;
    manager = fold take_up (new_manager alloc setting) (in_doubt ++ untold);
    queues = [];
    servers = fold keep_changes servers in_doubt;
    kept = kept_as closed_one;
    commands = [];
    locals = [];
    is_first = true;
    committed = thin.committed;
  }

  -- the node that rises from the thin log is the other, but for the Commits it knows of
  pub rises_alike : opened_node alloc setting thin kept ≡ record (opened_node alloc setting full kept) { committed = thin.committed }
  unfolding made
  rises_alike =
      ap (λ (d : List Record). made d thin.untold (opened_servers setting.quota thin) (closed_kept setting.node thin kept)) doubts
      ∙ ap (λ (c : List Record). made full.in_doubt c (opened_servers setting.quota thin) (closed_kept setting.node thin kept)) commits
      ∙ ap (λ (s : ServersValue). made full.in_doubt full.untold s (closed_kept setting.node thin kept)) servers_same
      ∙ ap (λ (k : Kept). made full.in_doubt full.untold (opened_servers setting.quota full) k) kept_same

-- ---- logs that read alike

-- what is not over is committed in both, or in none
among_alike : (over : List Tid) (full thin : Recovery) → ReadsAlike over full thin → (t : Tid) → is_among over t ≡ false → is_among thin.committed t ≡ is_among full.committed t
among_alike over full thin r t off =
    sym (any_filtered (same_tid t) (is_among over) thin.committed (λ u on. far u on (same_tid t u) refl))
    ∙ ap (list_any (same_tid t)) r.others
    ∙ any_filtered (same_tid t) (is_among over) full.committed (λ u on. far u on (same_tid t u) refl)
  where
    far : (u : Tid) → is_among over u ≡ true → (b : Bool) → same_tid t u ≡ b → same_tid t u ≡ false
    far u on true is = absurd (never_both (is_among over u) on (ap (is_among over) (sym (same_tid-true t u is)) ∙ off))
    far u on false is = is

pub each_rises_same : EachRisesSame
each_rises_same alloc setting kept over full thin are r closed =
    let finds = finds_same over full thin are r in
    rises_alike alloc setting kept (is_among over) (recovered_as full) (recovered_as thin) r.files r.audit finds.doubts finds.commits (among_alike over full thin r) closed

-- ---- its restart

pub each_restart_is_same : EachRestartIsSame
each_restart_is_same here book node inc over full thin there gone are r lawful =
    let finds = finds_same over full thin are r in
    let thinner : IsThinner (is_among over) full.committed thin.committed = record { within = r.fewer; same = r.others; whole = r.over_are } in
    let found : left_of (is_among over) (map found_of (open_votes full)) ≡ map found_of (open_votes thin) =
    filter_of_mapped found_of (λ (vote : Found). not (is_among over vote.tid)) (open_votes full) ∙ ap (map found_of) (sym finds.votes) in
    subst (λ (pend : List Found). (broken_restart here book node inc pend thin.committed ≡ None) × (restart here inc pend thin.committed book ≡ restart here inc (map found_of (open_votes full)) full.committed book)) found
    (each_thin_restart here book node (is_among over) inc (map found_of (open_votes full)) full.committed thin.committed there gone thinner lawful)
