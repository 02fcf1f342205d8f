-- What a tidy node says of what a rule takes up.
use Rattle.qs_world_refine.proofs.Words.{◌≡◌, inl, inr, ℕ, ◌<◌, ◌==◌, ◌&&◌, ◌||◌, not, Bool, true, false, List, [], ◌∷◌, ◌++◌, fold, length, Option, Some, None, is_some, refl, sym, ap, subst, ◌∙◌, arith, nat_lt, nat_le, if◌then◌else◌, nat_tests, get_or-set_other, list_all, find, is_at, lookup, ClientNo, NodeNo, ServerNo, Tid, peer_of, Nodes, same_node, put_node, listed, with_listed, server_cmp, QueueValue, first_of, Delivery, has_label, is_recoverable, ServerValue, number_of, vote_of, ServerKind}
use Rattle.qs_world_refine.proofs.Words.{server_at, kept_outcome, label_at, Work, part_of, client_cmp, Setting, OpenCommand, is_one, told_with_own, is_undecided, Participant, fits, is_drawn, may_command, is_sound, fits_setting, is_owned, is_owned_label, where_so, same_flag, Stage, IsStage, IsTidy, is_tidy_part, is_tidy_superior, is_tidy_label, is_tidy_command, is_begun_delivery, is_begun_queue, Reads, is_run, is_homed, not-true}
use Rattle.qs_engage.specs.Nodes.{has_node, all_nodes}
use Rattle.qs_ipc.specs.Ipc as ipc
use Rattle.qs_node_kept.specs.declared.kept.KeptLabel.{KeptLabel}
use Rattle.qs_ops.specs.Server.{changes_vote, names_vote}
use Rattle.qs_ops.specs.Table.{has_changes, least_taken}
use Rattle.qs_ops.specs.declared.server.ServerKind.TheVariants as kinds
use Rattle.qs_ops.specs.declared.vote.Vote.TheVariants as votes
use Rattle.qs_packet.specs.declared.message.Message.TheVariants as messages
use Rattle.qs_tm.specs.Manager as tm
use Rattle.qs_tm.specs.Manager.{put_tid}
use Rattle.qs_tm.specs.declared.manager.Which.TheVariants as whiches
use Rattle.qs_world_refine.proofs.Entries.{found_passes, one_found}
use Rattle.qs_world_refine.proofs.SoundBegin.{all_last}
use Rattle.qs_world_refine.proofs.SoundHolds.{known_sound}
use Rattle.qs_world_refine.proofs.SoundParts.{and_both, both_and}
use Rattle.qs_world_refine.proofs.SoundViews.{PartSound, seen}
use Rattle.qs_world_refine.proofs.TidyNodes.{part_read, home_read}

-- where the first holds so does the second
so_then : (a b : Bool) → where_so a b ≡ true → a ≡ true → b ≡ true
so_then true b is so = is
so_then false b is so = absurd (cc (so))

in_it : (node : Rattle.qs_node_step.specs.State.NodeValue) → fits_setting node ≡ true → nat_lt node.setting.node.0 node.setting.nodes ≡ true
in_it node fits = (and_both (nat_lt node.setting.node.0 node.setting.nodes) _ (and_both (nat_lt node.setting.node.0 node.setting.nodes && (nat_le node.setting.nodes 16 && nat_lt 0 node.setting.inc)) _ fits).0).0

-- ---- told sets: nodes of the run, and never the home

listed_pass : (q : NodeNo → Bool) (nodes : Nodes) (list acc : List NodeNo) → list_all q acc ≡ true → list_all (λ (n : NodeNo). where_so (has_node nodes n) (q n)) list ≡ true → list_all q (fold (with_listed nodes) acc list) ≡ true
listed_pass q nodes [] acc some all = some
listed_pass q nodes (n ∷ list) acc some all = by (has_node nodes n) refl (λ more passes. listed_pass q nodes list more passes (and_both (where_so (has_node nodes n) (q n)) _ all).1)
  where
    both : (where_so (has_node nodes n) (q n) ≡ true) × (list_all (λ (n : NodeNo). where_so (has_node nodes n) (q n)) list ≡ true)
    both = and_both (where_so (has_node nodes n) (q n)) _ all

    by : (b : Bool) → has_node nodes n ≡ b → ((more : List NodeNo) → list_all q more ≡ true → list_all q (fold (with_listed nodes) more list) ≡ true) → list_all q (fold (with_listed nodes) (if b then acc ++ n ∷ [] else acc) list) ≡ true
    by true is on = on (acc ++ n ∷ []) (all_last q acc n some (so_then (has_node nodes n) (q n) both.0 is))
    by false is on = on acc some

all_where : (p q : NodeNo → Bool) → ((n : NodeNo) → p n ≡ true → q n ≡ true) → (list : List NodeNo) → list_all p list ≡ true → list_all q list ≡ true
all_where p q more list all = Rattle.qs_world_refine.proofs.SoundBegin.all_implied p q more list all

-- ---- votes

votes_recoverably : (value : ServerValue) (tid : Tid) (free frame s : ℕ) → number_of value.kind ≡ s → vote_of value tid free frame ≡ votes.Recoverable → is_recoverable s ≡ true
votes_recoverably value tid free frame s is vote = by (has_changes value.table tid) vote
  where
    changed : (k : ServerKind) → number_of k ≡ s → changes_vote k value.table tid free frame ≡ votes.Recoverable → is_recoverable s ≡ true
    changed (kinds.Files quota) is vote = subst (λ (r : ℕ). is_recoverable r ≡ true) is refl
    changed kinds.Audit is vote = subst (λ (r : ℕ). is_recoverable r ≡ true) is refl
    changed kinds.Names is vote = named (least_taken value.table tid) vote
      where
        named : (o : Option (List ℕ)) → names_vote o ≡ votes.Recoverable → is_recoverable s ≡ true
        named None vote = absurd (cc (vote))
        named (Some name) vote = absurd (cc (vote))
    changed kinds.Timers is vote = absurd (cc (vote))
    changed kinds.Windows is vote = absurd (cc (vote))
    changed kinds.Scratch is vote = absurd (cc (vote))
    changed kinds.Nothing is vote = absurd (cc (vote))

    by : (b : Bool) → (if b then changes_vote value.kind value.table tid free frame else votes.ReadOnly) ≡ votes.Recoverable → is_recoverable s ≡ true
    by true vote = changed value.kind is vote
    by false vote = absurd (cc (vote))

module _ (c : Stage) (stage : IsStage c) where
  -- ---- what it keeps of one transaction

  engaged_read : (tid : Tid) (part : Participant) (superior : NodeNo) (work : Work) → IsTidy c work → part_of tid work ≡ Some part → part.engage.superior ≡ Some superior → c.begun tid ≡ true
  engaged_read tid part superior work t known is = (and_both (c.begun tid) (c.met superior) (subst (λ (o : Option NodeNo). is_tidy_superior c tid o ≡ true) is
      (and_both (where_so part.asked (c.begun tid)) _ (and_both (c.past tid && same_flag part.engage.home (same_node tid.home c.setting.node)) _ (part_read c work.node t.node tid part known)).1).1)).0

  asked_read : (tid : Tid) (part : Participant) (work : Work) → IsTidy c work → part_of tid work ≡ Some part → part.asked ≡ true → c.begun tid ≡ true
  asked_read tid part work t known is = so_then part.asked (c.begun tid)
      (and_both (where_so part.asked (c.begun tid)) _ (and_both (c.past tid && same_flag part.engage.home (same_node tid.home c.setting.node)) _ (part_read c work.node t.node tid part known)).1).0 is

  told_read : (tid : Tid) (part : Participant) (superior : NodeNo) (number : ℕ) (work : Work) → IsTidy c work → is_sound work.node ≡ true → part_of tid work ≡ Some part → part.engage.superior ≡ Some superior → part.engage.home ≡ false
      → fits c.past c.begun c.setting.nodes c.setting.node superior (messages.VotedYes tid number (listed (told_with_own c.setting.node part))) ≡ true
  told_read tid part superior number work t sound known is away = both_and (c.begun tid) _ (engaged_read tid part superior work t known is) (own part.involved)
    where
      s : PartSound work.node tid part
      s = known_sound tid work.node part known sound

      me : NodeNo
      me = c.setting.node

      nodes_are : work.node.setting.nodes ≡ c.setting.nodes
      nodes_are = ap (λ (s : Setting). s.nodes) t.node.setting

      not_home : same_node tid.home me ≡ false
      not_home = sym (home_read c work.node t.node tid part known) ∙ away

      me_in : nat_lt me.0 c.setting.nodes ≡ true
      me_in = subst (λ (s : Setting). nat_lt s.node.0 s.nodes ≡ true) t.node.setting (in_it work.node (seen work.node sound).fits)

      home_out : has_node part.told tid.home ≡ false
      home_out = not-true (has_node part.told tid.home) s.outside

      -- of its told set
      drawn : (n : NodeNo) → Rattle.qs_world_refine.specs.Sound.is_sound_peer work.node part n ≡ true → where_so (has_node part.told n) (is_drawn c.setting.nodes tid n) ≡ true
      drawn n peer = at (has_node part.told n) refl (and_both (where_so (nat_lt 0 (peer_of part.engage n).sent) (part.involved && (nat_lt n.0 work.node.setting.nodes && not (same_node n work.node.setting.node)))) (where_so (has_node part.told n) (nat_lt n.0 work.node.setting.nodes)) (and_both (nat_le (peer_of part.engage n).covered (peer_of part.engage n).sent) (where_so (nat_lt 0 (peer_of part.engage n).sent) (part.involved && (nat_lt n.0 work.node.setting.nodes && not (same_node n work.node.setting.node))) && where_so (has_node part.told n) (nat_lt n.0 work.node.setting.nodes)) peer).1).1
        where
          other : has_node part.told n ≡ true → (b : Bool) → same_node n tid.home ≡ b → not b ≡ true
          other is true same = absurd (let it : n.0 ≡ tid.home.0 = grind (arith, nat_tests, same) in let at : has_node part.told tid.home ≡ true = subst (λ (k : ℕ). Rattle.std.specs.List.slice_index_or part.told.has k false ≡ true) it is in cc (at, home_out))
          other is false apart = refl

          at : (b : Bool) → has_node part.told n ≡ b → where_so b (nat_lt n.0 work.node.setting.nodes) ≡ true → where_so b (is_drawn c.setting.nodes tid n) ≡ true
          at true is low = both_and (nat_lt n.0 c.setting.nodes) _ (subst (λ (k : ℕ). nat_lt n.0 k ≡ true) nodes_are low) (other is (same_node n tid.home) refl)
          at false is low = refl

      all_drawn : list_all (λ (n : NodeNo). where_so (has_node part.told n) (is_drawn c.setting.nodes tid n)) all_nodes ≡ true
      all_drawn = all_where (Rattle.qs_world_refine.specs.Sound.is_sound_peer work.node part) (λ (n : NodeNo). where_so (has_node part.told n) (is_drawn c.setting.nodes tid n)) drawn all_nodes s.peers

      -- and itself
      with_me : (n : NodeNo) → where_so (has_node part.told n) (is_drawn c.setting.nodes tid n) ≡ true → where_so (has_node (put_node part.told me) n) (is_drawn c.setting.nodes tid n) ≡ true
      with_me n is = at (n.0 == me.0) refl
        where
          own_drawn : n.0 ≡ me.0 → is_drawn c.setting.nodes tid n ≡ true
          own_drawn same = both_and (nat_lt n.0 c.setting.nodes) _ (subst (λ (k : ℕ). nat_lt k c.setting.nodes ≡ true) (sym same) me_in) (grind (arith, nat_tests, same, not_home))

          any : (a b : Bool) → b ≡ true → where_so a b ≡ true
          any true b is = is
          any false b is = refl

          at : (b : Bool) → (n.0 == me.0) ≡ b → where_so (has_node (put_node part.told me) n) (is_drawn c.setting.nodes tid n) ≡ true
          at true same = any (has_node (put_node part.told me) n) (is_drawn c.setting.nodes tid n) (own_drawn (grind (arith, nat_tests, same)))
          at false apart = subst (λ (b : Bool). where_so b (is_drawn c.setting.nodes tid n) ≡ true) (sym (get_or-set_other part.told.has me.0 n.0 true false (λ same. grind (arith, nat_tests, apart, same)))) is

      own : (b : Bool) → list_all (is_drawn c.setting.nodes tid) (listed (if b then put_node part.told me else part.told)) ≡ true
      own true = listed_pass (is_drawn c.setting.nodes tid) (put_node part.told me) all_nodes [] refl (all_where (λ (n : NodeNo). where_so (has_node part.told n) (is_drawn c.setting.nodes tid n)) (λ (n : NodeNo). where_so (has_node (put_node part.told me) n) (is_drawn c.setting.nodes tid n)) with_me all_nodes all_drawn)
      own false = listed_pass (is_drawn c.setting.nodes tid) part.told all_nodes [] refl all_drawn

  -- ---- labels

  label_read : (name : List ℕ) (begun : KeptLabel) (tid : Tid) (work : Work) → IsTidy c work → label_at name work.node ≡ Some begun → begun.tid ≡ Some tid → c.begun tid ≡ true
  label_read name begun tid work t found is = by begun.tid is (one_found (has_label name) (is_tidy_label c) work.node.kept.now.labels begun found t.node.labels)
    where
      by : (o : Option Tid) → o ≡ Some tid → elim o [ None ↦ true | Some u ↦ c.begun u && where_so (is_some begun.owner) (same_node u.home c.setting.node) ] ≡ true → c.begun tid ≡ true
      by None none its = absurd (cc (none))
      by (Some u) same its = let it : u ≡ tid = cc (same) in subst (λ (v : Tid). c.begun v ≡ true) it (and_both (c.begun u) _ its).0

  owned_read : (name : List ℕ) (begun : KeptLabel) (owner : ClientNo) (tid : Tid) (work : Work) → IsTidy c work → label_at name work.node ≡ Some begun → begun.owner ≡ Some owner → begun.tid ≡ Some tid → kept_outcome tid work.node ≡ None
      → tm.told_of tid false is_run work.node.manager ≡ true
  owned_read name begun owner tid work t found own is none = by begun.owner own begun.tid is (one_found (has_label name) (is_owned_label work.node) work.node.kept.now.labels begun found t.node.crossed.owned)
    where
      runs : (o : Option Rattle.qs_node_kept.specs.declared.kept.Decided.Decided) → o ≡ None → (is_some o || tm.told_of tid false is_run work.node.manager) ≡ true → tm.told_of tid false is_run work.node.manager ≡ true
      runs None so its = its
      runs (Some d) so its = absurd (cc (so))

      by : (o : Option ClientNo) → o ≡ Some owner → (u : Option Tid) → u ≡ Some tid → (not (is_some o) || elim u [ None ↦ true | Some v ↦ is_owned work.node v ]) ≡ true → tm.told_of tid false is_run work.node.manager ≡ true
      by None so u same its = absurd (cc (so))
      by (Some o) so None same its = absurd (cc (same))
      by (Some o) so (Some v) same its = let it : v ≡ tid = cc (same) in runs (kept_outcome tid work.node) none (subst (λ (v : Tid). is_owned work.node v ≡ true) it its)

  -- ---- what waits, and what is open

  waiting_read : (server : ServerNo) (delivery : Delivery) (work : Work) → IsTidy c work → ipc.next server work.node.queues ≡ Some delivery → c.begun delivery.tid ≡ true
  waiting_read server delivery work t is = by (lookup (is_at (server_cmp server)) work.node.queues) refl is
    where
      head : (ds : List Delivery) → first_of ds ≡ Some delivery → list_all (is_begun_delivery c) ds ≡ true → c.begun delivery.tid ≡ true
      head [] is all = absurd (cc (is))
      head (d ∷ ds) is all = let it : d ≡ delivery = cc (is) in subst (λ (e : Delivery). c.begun e.tid ≡ true) it (and_both (is_begun_delivery c d) (list_all (is_begun_delivery c) ds) all).0

      by : (o : Option QueueValue) → lookup (is_at (server_cmp server)) work.node.queues ≡ o → first_of (Rattle.std.proofs.Common.unwrap_or o Rattle.qs_ipc.specs.Queue.no_queue).waiting ≡ Some delivery → c.begun delivery.tid ≡ true
      by None none is = absurd (cc (is))
      by (Some queue) found is = let it : (k : ServerNo) × (is_begun_queue c (k, queue) ≡ true) = found_passes (is_at (server_cmp server)) (is_begun_queue c) work.node.queues queue found t.node.waiting in head queue.waiting is it.1

  command_read : (client : ClientNo) (command : OpenCommand) (work : Work) → IsTidy c work → lookup (is_at (client_cmp client)) work.node.commands ≡ Some command → may_command c.setting.nodes command.line.command ≡ true
  command_read client command work t found = let it : (k : ClientNo) × (is_tidy_command c (k, command) ≡ true) = found_passes (is_at (client_cmp client)) (is_tidy_command c) work.node.commands command found t.node.commands in it.1

  -- ---- what is old

  homed_last : (age : ℕ) (ticks : ℕ) (es : List (Tid × Participant)) (tids : List Tid) → list_all (is_tidy_part c) es ≡ true → list_all (is_homed c.past c.setting.node) tids ≡ true
      → list_all (is_homed c.past c.setting.node) (fold (put_tid (whiches.Aged ticks age)) tids es) ≡ true
  homed_last age ticks [] tids all some = some
  homed_last age ticks (e ∷ es) tids all some = by (is_one (whiches.Aged ticks age) e.0 e.1) refl (λ more passes. homed_last age ticks es more (and_both (is_tidy_part c e) (list_all (is_tidy_part c) es) all).1 passes)
    where
      both : (is_tidy_part c e ≡ true) × (list_all (is_tidy_part c) es ≡ true)
      both = and_both (is_tidy_part c e) (list_all (is_tidy_part c) es) all

      flagged : (a b : Bool) → same_flag a b ≡ true → a ≡ true → b ≡ true
      flagged true b is so = is
      flagged false b is so = absurd (cc (so))

      homed : is_one (whiches.Aged ticks age) e.0 e.1 ≡ true → is_homed c.past c.setting.node e.0 ≡ true
      homed is =
          let first : (c.past e.0 ≡ true) × (same_flag e.1.engage.home (same_node e.0.home c.setting.node) ≡ true) = and_both (c.past e.0) _ (and_both (c.past e.0 && same_flag e.1.engage.home (same_node e.0.home c.setting.node)) _ both.0).0 in
          both_and (c.past e.0) _ first.0 (flagged e.1.engage.home (same_node e.0.home c.setting.node) first.1 (and_both e.1.engage.home _ (and_both (is_undecided e.1) _ is).1).0)

      by : (b : Bool) → is_one (whiches.Aged ticks age) e.0 e.1 ≡ b
          → ((more : List Tid) → list_all (is_homed c.past c.setting.node) more ≡ true → list_all (is_homed c.past c.setting.node) (fold (put_tid (whiches.Aged ticks age)) more es) ≡ true)
          → list_all (is_homed c.past c.setting.node) (fold (put_tid (whiches.Aged ticks age)) (if b then tids ++ e.0 ∷ [] else tids) es) ≡ true
      by true is on = on (tids ++ e.0 ∷ []) (all_last (is_homed c.past c.setting.node) tids e.0 some (homed is))
      by false is on = on tids some

  pub tidy_reads : Reads c.past c.begun c.met c.setting.node c.setting.nodes (IsTidy c)
  tidy_reads = record {
    inside = stage.inside;
    here = λ work t. ap (λ (s : Setting). s.node) t.node.setting;
    known = λ tid part work t known. (and_both (c.past tid) _ (and_both (c.past tid && same_flag part.engage.home (same_node tid.home c.setting.node)) _ (part_read c work.node t.node tid part known)).0).0;
    home = λ tid part work t known. home_read c work.node t.node tid part known;
    engaged = engaged_read;
    asked = asked_read;
    told = told_read;
    label = label_read;
    owned = owned_read;
    waiting = waiting_read;
    command = command_read;
    vote = λ tid server free frame work t low vote. votes_recoverably (server_at work.node.servers server) tid free frame server.0 (t.node.kinds server.0 low) vote;
    aged = λ age work t. homed_last age work.node.manager.ticks work.node.manager.known [] t.node.known refl;
  }
