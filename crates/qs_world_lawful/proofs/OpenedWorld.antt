-- As a world begins the machine has all of it: each node that begins over its log, with what that says, and that nothing is kept for clients.
use Rattle.qs_world_lawful.proofs.Words.{◌≡◌, inl, ℕ, ◌<◌, ◌+◌, ◌==◌, ◌&&◌, ◌||◌, ◌^◌, ◌++◌, not, Bool, true, false, List, [], ◌∷◌, length, map, fold, Option, Some, None, zero, suc, refl, sym, ap, subst, ◌∙◌, arith, is_some, nat_lt, nat_le, if◌then◌else◌, nat_tests, append-nil, slice_get, insert_entry, tid_cmp, Tid, first_book, opening_names, BookValue, find_transaction, name_all, name_from, name_pending, name_transaction, opened_transaction, TransactionValue, Opened, Pending, Recovery, in_doubt}
use Rattle.qs_world_lawful.proofs.Words.{recovery, untold, new_manager, Setting, Participant, opened_from, IsOpening, Host, Opening, start, part_or_new, HoldsClients, HoldsNode, HoldsStill, is_next, HoldsHost, HoldsLogged, KnowsLog, HoldsSaid, HoldsKept, HoldsNodeOf, HoldsUp, HoldsWorld, and_parts}
use Rattle.qs_node_kept.specs.Keeping.{no_kept}
use Rattle.qs_book_machine.specs.Nodes as machine
use Rattle.qs_book_machine.specs.Opening.{opened_node}
use Rattle.qs_node_step.specs.State.{NodeValue}
use Rattle.qs_tm.specs.Manager as tm
use Rattle.qs_world.specs.Moves.{is_in_order}
use Rattle.qs_world.specs.Openings.{is_setting}
use Rattle.qs_world.specs.World.{opened_host}
use Rattle.qs_world_lawful.proofs.CoherentOpenings.{each_is}
use Rattle.qs_world_lawful.proofs.FreshFace.{at_held, known_as, waits_at}
use Rattle.qs_world_lawful.proofs.FreshLog.{SameNumbers, all_taken, knows}
use Rattle.qs_world_lawful.proofs.OpenedFresh.{book, coherent, lasts, log, opened, state, state_there}
use Rattle.qs_world_lawful.proofs.OpenedSaid.{log_held, said_held}
use Rattle.qs_world_lawful.proofs.OpenedServers.{begins, fresh_own, no_loans, servers_held}

-- ---- the machine opens at the beginning

record AtFirst (b : BookValue) : Type 0 where
  stamp : b.stamp ≡ 0
  node : b.node ≡ 0

named_first : (b : BookValue) (t : Tid) → AtFirst b → AtFirst (name_transaction b t)
named_first b t a = by (find_transaction b t)
  where
    by : (o : Option TransactionValue) → AtFirst (elim o [ Some tx ↦ b | None ↦ record b { transactions = insert_entry tid_cmp b.transactions t (opened_transaction b.nodes t) } ])
    by (Some tx) = a
    by None = record { stamp = a.stamp; node = a.node }

all_first : (tids : List Tid) (b : BookValue) → AtFirst b → AtFirst (fold name_transaction b tids)
all_first [] b a = a
all_first (t ∷ tids) b a = all_first tids (name_transaction b t) (named_first b t a)

votes_first : (n inc : ℕ) (ps : List Pending) (b : BookValue) → AtFirst b → AtFirst (fold (name_pending n inc) b ps)
votes_first n inc [] b a = a
votes_first n inc (p ∷ ps) b a = votes_first n inc ps (name_pending n inc b p) (let m = named_first b p.tid a in record { stamp = m.stamp; node = m.node })

logs_first : (n : ℕ) (ones : List Opened) (b : BookValue) → AtFirst b → AtFirst (name_from n ones b)
logs_first n [] b a = a
logs_first n (x ∷ ones) b a = logs_first (suc n) ones (name_all n x b) (votes_first n x.inc x.pending (fold name_transaction b x.committed) (all_first x.committed b a))

-- ---- the whole

module _ (o : Opening) (opens : IsOpening o) where
  abbrev now : BookValue
  now = book o opens

  at_first : AtFirst now
  at_first = logs_first 0 (opened o opens) (first_book (opened o opens)) (record { stamp = refl; node = refl })

  sized : length now.nodes ≡ o.size
  sized = ap length (opening_names (opened o opens) (coherent o opens)).nodes ∙ run 0 o.size
    where
      run : (k more : ℕ) → length (map opened_node (opened_from o k more)) ≡ more
      run k zero = refl
      run k (suc more) = ap suc (run (k + 1) more)

  module _ (n : ℕ) (low : n < o.size) where
    abbrev setting : Setting
    setting = o.settings n

    is : is_setting o.size n setting ≡ true
    is = each_is o.size (λ m. is_setting o.size m (o.settings m)) opens.settings n low

    no_is : (a b : ℕ) → (a == b) ≡ true → a ≡ b
    no_is a b e = grind (arith, nat_tests, e)

    node_no : setting.node.0 ≡ n
    node_no = no_is setting.node.0 n (and_parts (setting.node.0 == n) (setting.nodes == o.size) (and_parts ((setting.node.0 == n) && (setting.nodes == o.size)) _ is).0).0

    own : setting.node ≡ record { 0 = n }
    own = ap (λ (k : ℕ). record { 0 = k }) node_no

    run_is : setting.nodes ≡ o.size
    run_is = no_is setting.nodes o.size (and_parts (setting.node.0 == n) (setting.nodes == o.size) (and_parts ((setting.node.0 == n) && (setting.nodes == o.size)) _ is).0).1

    format_is : (((setting.extra == 0) && (setting.keep == 128)) || ((setting.extra == 8) && (setting.keep == 144))) ≡ true
    format_is = (and_parts _ _ (and_parts _ _ (and_parts _ _ (and_parts ((setting.node.0 == n) && (setting.nodes == o.size)) _ is).1).1).1).0

    -- the format of its disk
    formats : (extra keep : ℕ) → (((extra == 0) && (keep == 128)) || ((extra == 8) && (keep == 144))) ≡ true
        → (machine.extra_of (if extra == 0 then 1 else 2) ≡ extra) × (machine.keep_of (if extra == 0 then 1 else 2) ≡ keep)
    formats extra keep h = by (extra == 0) refl h
      where
        eight : (extra == 0) ≡ false → ((false && (keep == 128)) || ((extra == 8) && (keep == 144))) ≡ true → (8 ≡ extra) × (144 ≡ keep)
        eight e h = let p = and_parts (extra == 8) (keep == 144) h in (sym (no_is extra 8 p.0), sym (no_is keep 144 p.1))

        zero_is : (extra == 0) ≡ true → ((true && (keep == 128)) || ((extra == 8) && (keep == 144))) ≡ true → (0 ≡ extra) × (128 ≡ keep)
        zero_is e h = (sym (no_is extra 0 e), of (keep == 128) refl h)
          where
            not_both : (a : ℕ) → (a == 0) ≡ true → (a == 8) ≡ false
            not_both a p = grind (arith, nat_tests, p)

            of : (b : Bool) → (keep == 128) ≡ b → (b || ((extra == 8) && (keep == 144))) ≡ true → 128 ≡ keep
            of true p h = sym (no_is keep 128 p)
            of false p h = absurd (cc (subst (λ (c : Bool). (c && (keep == 144)) ≡ true) (not_both extra e) h))

        by : (b : Bool) → (extra == 0) ≡ b → ((b && (keep == 128)) || ((extra == 8) && (keep == 144))) ≡ true → (machine.extra_of (if b then 1 else 2) ≡ extra) × (machine.keep_of (if b then 1 else 2) ≡ keep)
        by true e h = zero_is e h
        by false e h = eight e h

    format : (machine.extra_of (state o opens n low).format ≡ setting.extra) × (machine.keep_of (state o opens n low).format ≡ setting.keep)
    format = formats setting.extra setting.keep format_is

    abbrev node : NodeValue
    node = begins o opens n low own

    numbers : SameNumbers (new_manager o.alloc setting) node.manager
    numbers = all_taken (in_doubt (log o opens n low) ++ untold (log o opens n low)) (new_manager o.alloc setting)

    node_held : HoldsNode node (state o opens n low)
    node_held = record { up = refl; inc = refl; begun = sym numbers.begun; extra = format.0; keep = format.1; at = numbers.node; in_inc = numbers.inc }

    unasked : (tid : Tid) (part : Participant) → tm.part_of tid node.manager ≡ Some part → part.asked ≡ true → ⊥
    unasked tid part known asked = cc (sym asked ∙ (ap (λ (p : Option Participant). (part_or_new p).asked) (sym known) ∙ (known_as o.alloc setting no_kept now (log o opens n low) (fresh_own o opens n low own) (no_loans o opens n low own) tid).asked))

    clients_held : HoldsClients now node
    clients_held = record {
      apart = tt;
      lines = λ client command at. absurd (cc at);
      labels = λ label begun tid client labelled at owned. absurd (cc labelled);
      outcomes = λ tid decided at. absurd (cc at);
      asking = λ tid client part home known undecided asked owner. absurd (unasked tid part known asked);
    }

    held : HoldsStill now node
    held = record {
      run = sized ∙ sym run_is;
      state = state o opens n low;
      there = ap (slice_get now.nodes) node_no ∙ state_there o opens n low;
      same = node_held;
      at = at_held o.alloc setting no_kept now (log o opens n low) (fresh_own o opens n low own) (no_loans o opens n low own);
      begun = λ tid home some. inl (earlier tid home (find_transaction now tid) refl some);
      clients = clients_held;
      servers = servers_held o opens n low own;
      waits = waits_at o.alloc setting no_kept now (log o opens n low) (fresh_own o opens n low own) (no_loans o opens n low own);
    }
      where
        earlier : (tid : Tid) → tid.home ≡ setting.node → (p : Option TransactionValue) → find_transaction now tid ≡ p → is_some (find_transaction now tid) ≡ true → tid.inc < setting.inc
        earlier tid home None none some = absurd (cc (sym (ap is_some none) ∙ some))
        earlier tid home (Some tx) found some = ((fresh_own o opens n low own).at tid tx found).begun home

    abbrev host : Host
    host = opened_host o.alloc setting (o.logs n)

    log_twice : recovery (o.logs n ++ []) ≡ log o opens n low
    log_twice = ap recovery (append-nil (o.logs n))

    -- by the number that the node has itself
    logged_own : HoldsLogged setting.node.0 now (state o opens n low) (log o opens n low)
    logged_own = subst (λ (k : ℕ). HoldsLogged k now (state o opens n low) (log o opens n low)) (sym node_no) (log_held o opens n low)

    host_held : HoldsHost n now host.node.manager host.log host.waiting
    host_held = record {
      state = state o opens n low;
      there = state_there o opens n low;
      named = (lasts o opens).named;
      all = subst (λ (l : Recovery). HoldsLogged n now (state o opens n low) l) (sym log_twice) (log_held o opens n low);
      knows = subst (λ (l : Recovery). KnowsLog now node.manager l) (sym log_twice) (knows o.alloc setting no_kept now (log o opens n low) (fresh_own o opens n low own) (no_loans o opens n low own));
      on_disk = log_held o opens n low;
      alike = ap (λ (l : Recovery). l.committed) log_twice;
    }

    up_held : HoldsUp n now (state o opens n low) host
    up_held = record {
      still = held;
      log = host_held;
      said = subst (λ (l : Recovery). HoldsSaid n now (state o opens n low) l) (sym log_twice) (said_held o opens n low);
      on_disk = said_held o opens n low;
    }

    kept_held : HoldsKept setting.node setting.inc now host.node.kept.saved
    kept_held = record { owners = λ label begun tid client labelled at owned. absurd (cc labelled); outcomes = λ tid d at. absurd (cc at); undecided = tt; loans = tt }

    node_at : HoldsNodeOf now o.size n setting.inc true host
    node_at = record {
      state = state o opens n low;
      there = state_there o opens n low;
      up_is = refl;
      inc_is = refl;
      node = node_no;
      run = run_is;
      format = format;
      accepted = refl;
      kept = kept_held;
      runs = λ up. up_held;
      stopped = λ up. absurd (cc up);
    }

  order_held : (n stamp : ℕ) → is_in_order (start o) n stamp ≡ true → is_next stamp n now ≡ true
  order_held n stamp is = subst (λ (s : ℕ). (nat_lt stamp (2 ^ 62) && (nat_lt s stamp || ((s == stamp) && not (nat_lt n now.node)))) ≡ true) (sym at_first.stamp)
      (subst (λ (m : ℕ). (nat_lt stamp (2 ^ 62) && (nat_lt 0 stamp || ((0 == stamp) && not (nat_lt n m)))) ≡ true) (sym at_first.node) (of n stamp o.size is))
    where
      of : (n stamp size : ℕ) → ((nat_lt n size && nat_lt stamp (2 ^ 62)) && ((nat_lt 0 stamp || ((0 == stamp) && nat_le 0 n)) && nat_le 0 stamp)) ≡ true → (nat_lt stamp (2 ^ 62) && (nat_lt 0 stamp || ((0 == stamp) && not (nat_lt n 0)))) ≡ true
      of n stamp size h = grind (arith, nat_tests, h)

  pub world_held : HoldsWorld now (start o)
  world_held = record { size = sized; order = order_held; nodes = λ n low. node_at n low }
