-- The entries that a node makes in a step leave all that is held of every other node, whether it runs or not.
use Rattle.qs_world_lawful.proofs.Words.{◌≡◌, ◌⊎◌, ℕ, ◌==◌, ◌++◌, Bool, true, false, List, [], ◌∷◌, Some, None, refl, sym, ap, subst, ◌∙◌, slice_get, Entry, same_number, after_both, lawful_front, lawful_rest, BookValue, IsLawful, book_after, broken, effect, opening, Prepared, recovery, Host, IsAside, IsMarked, StandsIn, Every, IsCommitLogged, IsCutVote, IsRecordKept, IsVoteLogged, HoldsLeft, HoldsDown, HoldsKept, HoldsNodeOf, HoldsUp}
use Rattle.qs_book_machine.specs.Nodes as machine
use Rattle.qs_node_step.specs.State.{NodeValue}
use Rattle.qs_world_lawful.specs.Aside.{StaysUnanimous}
use Rattle.qs_world_lawful.specs.AsideLaws.{EachKeepsOthers, HoldsAside}
use Rattle.qs_world_lawful.proofs.AsideBook.{node_on}
use Rattle.qs_world_lawful.proofs.AsideDown.{record_on, there_on, vote_on}
use Rattle.qs_world_lawful.proofs.AsideGoes.{commits_on, goes_aside}
use Rattle.qs_world_lawful.proofs.AsideIssue.{NodeOn}
use Rattle.qs_world_lawful.proofs.AsideKept.{kept_on, said_on, stands_on}
use Rattle.qs_world_lawful.proofs.AsideLeft.{left_on}
use Rattle.qs_world_lawful.proofs.AsideNode.{holds_on, notes_on}
use Rattle.qs_world_lawful.proofs.LastsEntry.{lasts_on}
use Rattle.qs_world_lawful.proofs.LastsOpening.{lasts_first, lasts_ran}
use Rattle.qs_world_lawful.proofs.LastsWell.{LastsWell}
use Rattle.qs_world_lawful.proofs.LogFrames.{every_on}
use Rattle.qs_world_lawful.proofs.LogOthers.{by_other}
use Rattle.qs_world_lawful.proofs.NumberedLogs.{opening_named}

-- what is held of a node that is down, but for the Commits of its log
record DownBut (book : BookValue) (size k inc : ℕ) (host : Host) : Type 0 where
  state : machine.NodeValue
  there : slice_get book.nodes k ≡ Some state
  up_is : state.up ≡ false
  inc_is : state.inc ≡ inc
  node : host.node.setting.node.0 ≡ k
  run : host.node.setting.nodes ≡ size
  format : (machine.extra_of state.format ≡ host.node.setting.extra) × (machine.keep_of state.format ≡ host.node.setting.keep)
  accepted : host.node.kept.saved ≡ host.node.kept.now
  kept : HoldsKept host.node.setting.node inc book host.node.kept.saved
  kinds : Every (λ (vote : Prepared). machine.is_recoverable vote.server.0 ≡ true) (recovery host.log).prepared
  votes : Every (λ (vote : Prepared). IsVoteLogged k book state (recovery host.log) vote ⊎ IsCutVote k book state vote) (recovery host.log).prepared
  records : Every (IsRecordKept k book (recovery host.log)) state.records
  stands : Every (StandsIn book) (recovery host.log).prepared
  marked : Every (IsMarked (recovery host.log)) (recovery host.log).prepared
  left : HoldsLeft k book state (recovery host.log)
  nothing_waits : host.waiting ≡ []

but_of : (book : BookValue) (size k inc : ℕ) (host : Host) → HoldsNodeOf book size k inc false host → DownBut book size k inc host
but_of book size k inc host c = record {
  state = c.state;
  there = c.there;
  up_is = c.up_is;
  inc_is = c.inc_is;
  node = c.node;
  run = c.run;
  format = c.format;
  accepted = c.accepted;
  kept = c.kept;
  kinds = d.log.kinds;
  votes = d.log.votes;
  records = d.log.kept;
  stands = d.stands;
  marked = d.marked;
  left = d.left;
  nothing_waits = d.nothing_waits;
}
  where
    d : HoldsDown k book c.state host
    d = c.stopped refl

whole : (book : BookValue) (size k inc : ℕ) (host : Host) (c : DownBut book size k inc host) → Every (IsCommitLogged k book c.state) (recovery host.log).committed → HoldsNodeOf book size k inc false host
whole book size k inc host c commits = record {
  state = c.state;
  there = c.there;
  up_is = c.up_is;
  inc_is = c.inc_is;
  node = c.node;
  run = c.run;
  format = c.format;
  accepted = c.accepted;
  kept = c.kept;
  runs = λ is. absurd (cc is);
  stopped = λ is. record {
    log = record { kinds = c.kinds; votes = c.votes; kept = c.records; commits = commits };
    stands = c.stands;
    marked = c.marked;
    left = c.left;
    nothing_waits = c.nothing_waits;
  };
}

module _ (book : BookValue) (entry : Entry) (w : LastsWell book) (h : broken book entry ≡ None) (size k inc : ℕ) (host : Host) where
  abbrev after : BookValue
  after = effect book entry

  far_of : (aside : IsAside k host.node entry) → (entry.node.0 == k) ≡ false
  far_of aside = by (entry.node.0 == k) refl
    where
      by : (b : Bool) → (entry.node.0 == k) ≡ b → b ≡ false
      by false is = refl
      by true is = absurd (aside.far (same_number entry.node.0 k is))

  -- a node that runs
  running : IsAside k host.node entry → HoldsAside book size k inc true host → HoldsAside after size k inc true host
  running aside a = record {
    node = record {
      state = n.later;
      there = subst (λ (j : ℕ). slice_get after.nodes j ≡ Some n.later) c.node n.there;
      up_is = n.left.up ∙ c.up_is;
      inc_is = n.left.inc ∙ c.inc_is;
      node = c.node;
      run = c.run;
      format = (ap machine.extra_of n.left.format ∙ c.format.0, ap machine.keep_of n.left.format ∙ c.format.1);
      accepted = c.accepted;
      kept = kept_on book entry w h k (far_of aside) aside.of_step host.node.setting.node c.node inc host.node.kept.saved c.kept;
      runs = λ is. record {
        still = holds_on book entry w h host.node own (a.issued refl) u.still;
        log = by_other book w.inv entry.stamp entry.node.0 k (far_of aside) host.node.manager host.log host.waiting entry.act h u.log;
        said = said_on book entry w h k (far_of aside) aside.of_step c.state n.later n.records (recovery (host.log ++ host.waiting)) u.said;
        on_disk = said_on book entry w h k (far_of aside) aside.of_step c.state n.later n.records (recovery host.log) u.on_disk;
      };
      stopped = λ is. absurd (cc is);
    };
    issued = λ is. notes_on book entry w h host.node own (a.issued refl);
  }
    where
      c : HoldsNodeOf book size k inc true host
      c = a.node

      u : HoldsUp k book c.state host
      u = c.runs refl

      own : IsAside host.node.setting.node.0 host.node entry
      own = subst (λ (j : ℕ). IsAside j host.node entry) (sym c.node) aside

      n : NodeOn book after host.node.setting.node c.state host.node.servers
      n = node_on book entry w h host.node.setting.node (ap (λ (j : ℕ). entry.node.0 == j) c.node ∙ far_of aside) c.state (ap (slice_get book.nodes) c.node ∙ c.there) host.node.servers c.up_is aside.of_step

  -- a node that is down
  down : IsAside k host.node entry → DownBut book size k inc host → DownBut after size k inc host
  down aside c = record {
    state = c.state;
    there = there_on book entry w h k (far_of aside) aside.of_step c.state c.there c.up_is;
    up_is = c.up_is;
    inc_is = c.inc_is;
    node = c.node;
    run = c.run;
    format = c.format;
    accepted = c.accepted;
    kept = kept_on book entry w h k (far_of aside) aside.of_step host.node.setting.node c.node inc host.node.kept.saved c.kept;
    kinds = c.kinds;
    votes = every_on (λ (v : Prepared). IsVoteLogged k book c.state (recovery host.log) v ⊎ IsCutVote k book c.state v) (λ (v : Prepared). IsVoteLogged k after c.state (recovery host.log) v ⊎ IsCutVote k after c.state v)
        (vote_on book entry w h k (far_of aside) aside.of_step c.state c.there (recovery host.log)) (recovery host.log).prepared c.votes;
    records = every_on (IsRecordKept k book (recovery host.log)) (IsRecordKept k after (recovery host.log)) (record_on book entry w h k (far_of aside) aside.of_step c.state c.there (recovery host.log)) c.state.records c.records;
    stands = every_on (StandsIn book) (StandsIn after) (λ v stands. stands_on book entry w h k (far_of aside) aside.of_step v.tid stands) (recovery host.log).prepared c.stands;
    marked = c.marked;
    left = left_on book entry w h k (far_of aside) aside.of_step c.state c.there c.up_is (recovery host.log) c.left;
    nothing_waits = c.nothing_waits;
  }

-- ---- over entries

running_leave : (more : List Entry) (book : BookValue) → LastsWell book → IsLawful book more → (size k inc : ℕ) (host : Host) → Every (IsAside k host.node) more → HoldsAside book size k inc true host → HoldsAside (book_after book more) size k inc true host
running_leave [] book w lawful size k inc host aside a = a
running_leave (entry ∷ more) book w lawful size k inc host aside a =
    running_leave more (effect book entry) (lasts_on book entry w lawful.0) lawful.1 size k inc host aside.1 (running book entry w lawful.0 size k inc host aside.0 a)

down_leave : (more : List Entry) (book : BookValue) → LastsWell book → IsLawful book more → (size k inc : ℕ) (host : Host) → Every (IsAside k host.node) more → DownBut book size k inc host → DownBut (book_after book more) size k inc host
down_leave [] book w lawful size k inc host aside c = c
down_leave (entry ∷ more) book w lawful size k inc host aside c =
    down_leave more (effect book entry) (lasts_on book entry w lawful.0) lawful.1 size k inc host aside.1 (down book entry w lawful.0 size k inc host aside.0 c)

-- the state of a node that is down is the same
down_state : (more : List Entry) (book : BookValue) (w : LastsWell book) (lawful : IsLawful book more) (size k inc : ℕ) (host : Host) (aside : Every (IsAside k host.node) more) (c : DownBut book size k inc host) → (down_leave more book w lawful size k inc host aside c).state ≡ c.state
unfolding down_leave down
down_state [] book w lawful size k inc host aside c = refl
down_state (entry ∷ more) book w lawful size k inc host aside c = down_state more (effect book entry) (lasts_on book entry w lawful.0) lawful.1 size k inc host aside.1 (down book entry w lawful.0 size k inc host aside.0 c)

far_entries : (k : ℕ) (node : NodeValue) (more : List Entry) → Every (IsAside k node) more → Every (λ (entry : Entry). (entry.node.0 == k) ≡ false) more
far_entries k node [] all = tt
far_entries k node (entry ∷ more) all = (by (entry.node.0 == k) refl, far_entries k node more all.1)
  where
    by : (b : Bool) → (entry.node.0 == k) ≡ b → b ≡ false
    by false is = refl
    by true is = absurd (all.0.far (same_number entry.node.0 k is))

module _ (more : List Entry) (book : BookValue) (w : LastsWell book) (lawful : IsLawful book more) (size k inc : ℕ) (host : Host) (aside : Every (IsAside k host.node) more) where
  of_down : StaysUnanimous k (recovery host.log) book (book_after book more) → HoldsAside book size k inc false host → HoldsAside (book_after book more) size k inc false host
  unfolding but_of
  of_down unanimous a = record { node = whole (book_after book more) size k inc host then (subst (λ (s : machine.NodeValue). Every (IsCommitLogged k (book_after book more) s) (recovery host.log).committed) (sym (down_state more book w lawful size k inc host aside before)) commits); issued = λ is. absurd (cc is) }
    where
      before : DownBut book size k inc host
      before = but_of book size k inc host a.node

      then : DownBut (book_after book more) size k inc host
      then = down_leave more book w lawful size k inc host aside before

      commits : Every (IsCommitLogged k (book_after book more) before.state) (recovery host.log).committed
      commits = commits_on k book (book_after book more) a.node.state (recovery host.log) (goes_aside k more book w lawful (far_entries k host.node more aside)) unanimous (a.node.stopped refl).log.commits

  pub entries_leave : (up : Bool) → (up ≡ false → StaysUnanimous k (recovery host.log) book (book_after book more)) → HoldsAside book size k inc up host → HoldsAside (book_after book more) size k inc up host
  entries_leave true unanimous a = running_leave more book w lawful size k inc host aside a
  entries_leave false unanimous a = of_down (unanimous refl) a

pub keeps_others : EachKeepsOthers
keeps_others opened history more coherent numbered lawful size k inc up host aside unanimous a =
    subst (λ (b : BookValue). HoldsAside b size k inc up host) (sym (after_both history more (opening opened)))
    (entries_leave more (book_after (opening opened) history) (lasts_ran history (opening opened) (lasts_first opened coherent (opening_named opened numbered)) (lawful_front history more (opening opened) lawful))
    (lawful_rest history more (opening opened) lawful) size k inc host aside up
    (λ off. subst (λ (b : BookValue). StaysUnanimous k (recovery host.log) (book_after (opening opened) history) b) (after_both history more (opening opened)) (unanimous off)) a)
