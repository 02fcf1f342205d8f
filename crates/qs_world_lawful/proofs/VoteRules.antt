-- Whatever files, audit and the further server vote is the vote by the rules, whether their transaction is crossed there or not.
use Rattle.qs_world_lawful.proofs.Words.{◌≡◌, ℕ, ◌==◌, ◌+◌, Bool, true, false, List, Some, refl, sym, ap, subst, ◌∙◌, arith, nat_lt, true≢false, nat_tests, not, length, fold, if◌then◌else◌, Member, NodeNo, ServerNo, Tid, BookValue, find_transaction, has_vote, is_vote, TransactionValue, is_crossed, vote_of, changes_vote, names_no, windows_no, scratch_no, class_of, is_two_phase, TableValue, share_of, has_changes, apply_change, File, ServerKind, Share, Vote, server_at, at_server, Holds, HoldsTable, is_seen}
use Rattle.qs_world_lawful.proofs.Words.{seen_in, eqb-true, eq-eqb}
use Rattle.std.specs.Prelude.{sum_by}
use Rattle.qs_book_machine.specs.Clauses.{is_server_vote, prepare_need}
use Rattle.qs_book_machine.specs.Nodes as machine
use Rattle.qs_ops.specs.Server.{vote_in_room, vote_need}
use Rattle.qs_ops.specs.Servers.{files_no, audit_no, timers_no, extra_no}
use Rattle.qs_ops.specs.Spelled.{prepare_length}
use Rattle.qs_ops.specs.Table.{view_bytes}
use Rattle.qs_ops.specs.declared.vote.Reason.TheVariants as reasons
use Rattle.qs_ops.specs.declared.vote.Vote.TheVariants as votes
use Rattle.qs_node_step.specs.State.{NodeValue}
use Rattle.qs_tm.specs.Manager.{batch_frame}
use Rattle.qs_world_lawful.specs.Holds.{is_kept}
use Rattle.qs_world_lawful.proofs.Tables.{own_share}
use Rattle.qs_base_lemmas.proofs.Tests.{and_three}

module _ (stamp : ℕ) (book : BookValue) (node : NodeValue) (h : Holds stamp book node) (tid : Tid) (tx : TransactionValue) (found : find_transaction book tid ≡ Some tx) where
  abbrev here : NodeNo
  here = node.setting.node

  abbrev at_number : ℕ → Member
  at_number n = record { node = here; server = record { 0 = n } }

  abbrev pub frame : ℕ
  frame = batch_frame + node.setting.extra + node.setting.keep

  -- any that the server has where it is crossed, else that of its rules
  pub right : (n : ℕ) (ballot : Vote) → has_vote n ballot ≡ true → (is_seen book here n tid ≡ true → is_server_vote h.state n tid ballot ≡ true) → is_vote h.state tid tx (at_number n) ballot ≡ true
  right n ballot has rule = by (is_crossed tx (at_number n)) refl
    where
      seen : is_crossed tx (at_number n) ≡ false → is_seen book here n tid ≡ true
      seen is = ap (seen_in here n) found ∙ ap not is

      by : (b : Bool) → is_crossed tx (at_number n) ≡ b → (if b then has_vote n ballot else is_server_vote h.state n tid ballot) ≡ true
      by true is = has
      by false is = rule (seen is)

  -- the machine's table has the same pending, and the same view
  module _ (n : ℕ) (kept held : TableValue) (t : HoldsTable (is_seen book here n) kept held) (mine : is_seen book here n tid ≡ true) where
    pub same_changes : has_changes kept tid ≡ has_changes held tid
    same_changes = ap (λ (s : Share). not (length s.changes == 0)) (own_share (is_seen book here n) kept held t tid mine)

    same_bytes_seen : view_bytes kept tid ≡ view_bytes held tid
    same_bytes_seen =
        ap (λ (c : List File). sum_by (λ (file : File). length file.content) (fold apply_change c (share_of kept tid).changes)) t.contents
        ∙ ap (λ (s : Share). sum_by (λ (file : File). length file.content) (fold apply_change held.contents s.changes)) (own_share (is_seen book here n) kept held t tid mine)

    same_need : vote_need held tid frame ≡ prepare_need h.state kept tid
    same_need = sums node.setting.extra node.setting.keep (machine.extra_of h.state.format) (machine.keep_of h.state.format) (prepare_length (share_of held tid).changes) (prepare_length (share_of kept tid).changes) h.same.extra h.same.keep
        (ap (λ (s : Share). prepare_length s.changes) (own_share (is_seen book here n) kept held t tid mine))
      where
        sums : (e k x y p q : ℕ) → x ≡ e → y ≡ k → q ≡ p → 41 + e + k + p ≡ (41 + x) + (q + y)
        sums e k x y p q a b c = grind (arith, a, b, c)

  abbrev pub IsRight : ℕ → Vote → Type 0
  IsRight n ballot = is_vote h.state tid tx (at_number n) ballot ≡ true

  in_room : (held : TableValue) (free : ℕ) (P : Vote → Type 0) → (nat_lt free (vote_need held tid frame) ≡ true → P (votes.Abort (reasons.LogRoom (vote_need held tid frame) free))) → P votes.Recoverable → P (vote_in_room held tid free frame)
  in_room held free P full fits = by (nat_lt free (vote_need held tid frame)) refl
    where
      by : (b : Bool) → nat_lt free (vote_need held tid frame) ≡ b → P (if b then votes.Abort (reasons.LogRoom (vote_need held tid frame) free) else votes.Recoverable)
      by true is = full is
      by false is = fits

  -- ---- each server

  files_right : (free : ℕ) → IsRight files_no (vote_of node.servers.files tid free frame)
  files_right free = by (has_changes held tid) refl
    where
      held : TableValue
      held = node.servers.files.table

      some : has_changes held tid ≡ true → is_seen book here files_no tid ≡ true → has_changes h.state.files tid ≡ true
      some is mine = same_changes files_no h.state.files held h.servers.files mine ∙ is

      roomy : has_changes held tid ≡ true → IsRight files_no (vote_in_room held tid free frame)
      roomy is = in_room held free (IsRight files_no)
          (λ less. right files_no (votes.Abort (reasons.LogRoom (vote_need held tid frame) free)) (rw less refl)
          (λ mine. and_three _ _ _ (some is mine) (eq-eqb _ _ (same_need files_no h.state.files held h.servers.files mine)) less))
          (right files_no votes.Recoverable refl (λ mine. some is mine))

      with_quota : has_changes held tid ≡ true → (quota : ℕ) (b : Bool) → nat_lt quota (view_bytes held tid) ≡ b → IsRight files_no (if b then votes.Abort (reasons.Quota (view_bytes held tid) quota) else vote_in_room held tid free frame)
      with_quota is quota true much = right files_no (votes.Abort (reasons.Quota (view_bytes held tid) quota)) (rw much refl)
          (λ mine. and_three _ _ _ (some is mine) (eq-eqb _ _ (same_bytes_seen files_no h.state.files held h.servers.files mine)) much)
      with_quota is quota false less = roomy is

      by : (b : Bool) → has_changes held tid ≡ b → IsRight files_no (if b then changes_vote node.servers.files.kind held tid free frame else votes.ReadOnly)
      by false is = right files_no votes.ReadOnly refl (λ mine. ap not (same_changes files_no h.state.files held h.servers.files mine ∙ is))
      by true is = subst (λ (k : ServerKind). IsRight files_no (changes_vote k held tid free frame)) (sym h.servers.kinds.files) (with_quota is h.servers.kinds.quota (nat_lt h.servers.kinds.quota (view_bytes held tid)) refl)

  audit_right : (free : ℕ) → IsRight audit_no (vote_of node.servers.audit tid free frame)
  audit_right free = by (has_changes held tid) refl
    where
      held : TableValue
      held = node.servers.audit.table

      some : has_changes held tid ≡ true → is_seen book here audit_no tid ≡ true → has_changes h.state.audit tid ≡ true
      some is mine = same_changes audit_no h.state.audit held h.servers.audit mine ∙ is

      by : (b : Bool) → has_changes held tid ≡ b → IsRight audit_no (if b then changes_vote node.servers.audit.kind held tid free frame else votes.ReadOnly)
      by false is = right audit_no votes.ReadOnly refl (λ mine. ap not (same_changes audit_no h.state.audit held h.servers.audit mine ∙ is))
      by true is = subst (λ (k : ServerKind). IsRight audit_no (changes_vote k held tid free frame)) (sym h.servers.kinds.audit)
          (in_room held free (IsRight audit_no)
          (λ less. right audit_no (votes.Abort (reasons.LogRoom (vote_need held tid frame) free)) (rw less refl)
          (λ mine. and_three _ _ _ (some is mine) (eq-eqb _ _ (same_need audit_no h.state.audit held h.servers.audit mine)) less))
          (right audit_no votes.Recoverable refl (λ mine. some is mine)))

  extra_right : (free : ℕ) → IsRight extra_no (vote_of node.servers.extra tid free frame)
  extra_right free = by (has_changes node.servers.extra.table tid)
    where
      by : (b : Bool) → IsRight extra_no (if b then changes_vote node.servers.extra.kind node.servers.extra.table tid free frame else votes.ReadOnly)
      by false = right extra_no votes.ReadOnly refl (λ mine. refl)
      by true = subst (λ (k : ServerKind). IsRight extra_no (changes_vote k node.servers.extra.table tid free frame)) (sym h.servers.kinds.extra) (right extra_no votes.ReadOnly refl (λ mine. refl))

  -- all that vote but names
  pub vote_is_right : (server : ServerNo) → is_kept server ≡ true → is_two_phase (class_of server.0) ≡ true → (server.0 == names_no) ≡ false → (free : ℕ) → is_vote h.state tid tx (at_server here server) (vote_of (server_at node.servers server) tid free frame) ≡ true
  vote_is_right server kept two other free = by (server.0 == files_no) (server.0 == audit_no) (server.0 == timers_no) (server.0 == windows_no) (server.0 == scratch_no) refl refl refl refl refl
    where
      last : (n : ℕ) → nat_lt n 7 ≡ true → (n == 2) ≡ false → (n == 0) ≡ false → (n == 1) ≡ false → (n == 3) ≡ false → (n == 4) ≡ false → (n == 5) ≡ false → n ≡ 6
      last n k p q r s t u = grind (arith, nat_tests, k, p, q, r, s, t, u)

      no_voter : (n m : ℕ) → (n == m) ≡ true → is_two_phase (class_of m) ≡ false → is_two_phase (class_of n) ≡ true → ⊥
      no_voter n m at silent voter = true≢false (sym voter ∙ (ap (λ (k : ℕ). is_two_phase (class_of k)) (eqb-true n m at) ∙ silent))

      by : (a b c d e : Bool) → (server.0 == files_no) ≡ a → (server.0 == audit_no) ≡ b → (server.0 == timers_no) ≡ c → (server.0 == windows_no) ≡ d → (server.0 == scratch_no) ≡ e → is_vote h.state tid tx (at_number server.0) (vote_of (server_at node.servers (record { 0 = server.0 })) tid free frame) ≡ true
      by true b c d e at _ _ _ _ = subst (λ (n : ℕ). is_vote h.state tid tx (at_number n) (vote_of (server_at node.servers (record { 0 = n })) tid free frame) ≡ true) (sym (eqb-true server.0 files_no at)) (files_right free)
      by false true c d e _ at _ _ _ = subst (λ (n : ℕ). is_vote h.state tid tx (at_number n) (vote_of (server_at node.servers (record { 0 = n })) tid free frame) ≡ true) (sym (eqb-true server.0 audit_no at)) (audit_right free)
      by false false true d e _ _ at _ _ = absurd (no_voter server.0 timers_no at refl two)
      by false false false true e _ _ _ at _ = absurd (no_voter server.0 windows_no at refl two)
      by false false false false true _ _ _ _ at = absurd (no_voter server.0 scratch_no at refl two)
      by false false false false false p q r s t = subst (λ (n : ℕ). is_vote h.state tid tx (at_number n) (vote_of (server_at node.servers (record { 0 = n })) tid free frame) ≡ true) (sym (last server.0 kept other p q r s t)) (extra_right free)
