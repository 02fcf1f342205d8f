-- A transaction that is crossed at a server from now on is hidden there, and at no other.
use Rattle.qs_world_lawful.proofs.Words.{◌≡◌, ◌≢◌, ℕ, ◌==◌, Bool, true, false, refl, sym, ap, subst, arith, nat_tests, not, ◌&&◌, if◌then◌else◌, is_at, tid_cmp, Tid, bound_names, crossed_node, crossed_server, crossed_names, crossed_table, with_table, with_doubts, names_no, windows_no, scratch_no, released, timers_ended, Share, ServersValue, HoldsServers, eqb-true}
use Rattle.qs_book_machine.specs.Nodes as machine
use Rattle.qs_book_machine.specs.Nodes.{pending_at}
use Rattle.qs_ops.specs.Servers.{files_no, audit_no, timers_no}
use Rattle.qs_world_lawful.proofs.Doubting.{crossed_doubts, doubts_alike}
use Rattle.qs_world_lawful.proofs.Tables.{own_share, table_alike, timers_alike, cross_table, cross_timers}

-- the same are hidden
pub servers_alike : (seen now : ℕ → Tid → Bool) (state : machine.NodeValue) (servers : ServersValue) → ((n : ℕ) (t : Tid) → now n t ≡ seen n t) → HoldsServers seen state servers → HoldsServers now state servers
servers_alike seen now state servers alike h = record {
  kinds = h.kinds;
  files = table_alike (seen files_no) state.files servers.files.table h.files (now files_no) (alike files_no);
  audit = table_alike (seen audit_no) state.audit servers.audit.table h.audit (now audit_no) (alike audit_no);
  names = table_alike (seen names_no) state.names servers.names.table h.names (now names_no) (alike names_no);
  timers = timers_alike (seen timers_no) state.timers servers.timers.timers h.timers (now timers_no) (alike timers_no);
  windows = table_alike (seen windows_no) state.windows servers.windows.table h.windows (now windows_no) (alike windows_no);
  scratch = table_alike (seen scratch_no) state.scratch servers.scratch.table h.scratch (now scratch_no) (alike scratch_no);
  doubts = doubts_alike (seen names_no) state.doubts servers.names.table h.doubts (now names_no) (alike names_no);
}

module _ (seen now : ℕ → Tid → Bool) (state : machine.NodeValue) (servers : ServersValue) (h : HoldsServers seen state servers) (tid : Tid) (server : ℕ)
    (hides : (t : Tid) → now server t ≡ (seen server t && not (is_at (tid_cmp tid) t))) (alike : (n : ℕ) → n ≢ server → (t : Tid) → now n t ≡ seen n t) where
  differ : (a b : ℕ) → (b == a) ≡ false → a ≢ b
  differ a b e is = grind (arith, nat_tests, e, is)

  hidden : (n : ℕ) → server ≡ n → (t : Tid) → now n t ≡ (seen n t && not (is_at (tid_cmp tid) t))
  hidden n at t = subst (λ (k : ℕ). now k t ≡ (seen k t && not (is_at (tid_cmp tid) t))) at (hides t)

  not_at : (m n : ℕ) → (server == m) ≡ true → (m == n) ≡ false → n ≢ server
  not_at m n at far is = grind (arith, nat_tests, at, far, is)

  pub crossed_servers : HoldsServers now (crossed_server tid server state) servers
  crossed_servers = by (server == files_no) (server == audit_no) (server == names_no) (server == timers_no) (server == windows_no) (server == scratch_no) refl refl refl refl refl refl
    where
      by : (a b c d e i : Bool) → (server == files_no) ≡ a → (server == audit_no) ≡ b → (server == names_no) ≡ c → (server == timers_no) ≡ d → (server == windows_no) ≡ e → (server == scratch_no) ≡ i
          → HoldsServers now (if c then crossed_names tid state else if d then record state { timers = timers_ended state.timers tid }
          else if a then record state { files = released state.files tid } else if b then record state { audit = released state.audit tid } else if c then record state { names = released state.names tid }
          else if e then record state { windows = released state.windows tid } else if i then record state { scratch = released state.scratch tid } else state) servers
      by a b true d e i _ _ at _ _ _ = record { kinds = h.kinds; files = table_alike (seen files_no) state.files servers.files.table h.files (now files_no) (alike files_no (not_at names_no files_no at refl)); audit = table_alike (seen audit_no) state.audit servers.audit.table h.audit (now audit_no) (alike audit_no (not_at names_no audit_no at refl)); names = cross_table (seen names_no) state.names servers.names.table h.names tid (now names_no) (hidden names_no (eqb-true server names_no at)); timers = timers_alike (seen timers_no) state.timers servers.timers.timers h.timers (now timers_no) (alike timers_no (not_at names_no timers_no at refl)); windows = table_alike (seen windows_no) state.windows servers.windows.table h.windows (now windows_no) (alike windows_no (not_at names_no windows_no at refl)); scratch = table_alike (seen scratch_no) state.scratch servers.scratch.table h.scratch (now scratch_no) (alike scratch_no (not_at names_no scratch_no at refl)); doubts = crossed_doubts (seen names_no) state.doubts servers.names.table h.doubts tid (bound_names (pending_at state tid names_no)) (now names_no) (hidden names_no (eqb-true server names_no at)) (λ mine. ap (λ (share : Share). bound_names share.changes) (own_share (seen names_no) state.names servers.names.table h.names tid mine)) }
      by a b false true e i _ _ _ at _ _ = record { kinds = h.kinds; files = table_alike (seen files_no) state.files servers.files.table h.files (now files_no) (alike files_no (not_at timers_no files_no at refl)); audit = table_alike (seen audit_no) state.audit servers.audit.table h.audit (now audit_no) (alike audit_no (not_at timers_no audit_no at refl)); names = table_alike (seen names_no) state.names servers.names.table h.names (now names_no) (alike names_no (not_at timers_no names_no at refl)); timers = cross_timers (seen timers_no) state.timers servers.timers.timers h.timers tid (now timers_no) (hidden timers_no (eqb-true server timers_no at)); windows = table_alike (seen windows_no) state.windows servers.windows.table h.windows (now windows_no) (alike windows_no (not_at timers_no windows_no at refl)); scratch = table_alike (seen scratch_no) state.scratch servers.scratch.table h.scratch (now scratch_no) (alike scratch_no (not_at timers_no scratch_no at refl)); doubts = doubts_alike (seen names_no) state.doubts servers.names.table h.doubts (now names_no) (alike names_no (not_at timers_no names_no at refl)) }
      by true b false false e i at _ _ _ _ _ = record { kinds = h.kinds; files = cross_table (seen files_no) state.files servers.files.table h.files tid (now files_no) (hidden files_no (eqb-true server files_no at)); audit = table_alike (seen audit_no) state.audit servers.audit.table h.audit (now audit_no) (alike audit_no (not_at files_no audit_no at refl)); names = table_alike (seen names_no) state.names servers.names.table h.names (now names_no) (alike names_no (not_at files_no names_no at refl)); timers = timers_alike (seen timers_no) state.timers servers.timers.timers h.timers (now timers_no) (alike timers_no (not_at files_no timers_no at refl)); windows = table_alike (seen windows_no) state.windows servers.windows.table h.windows (now windows_no) (alike windows_no (not_at files_no windows_no at refl)); scratch = table_alike (seen scratch_no) state.scratch servers.scratch.table h.scratch (now scratch_no) (alike scratch_no (not_at files_no scratch_no at refl)); doubts = doubts_alike (seen names_no) state.doubts servers.names.table h.doubts (now names_no) (alike names_no (not_at files_no names_no at refl)) }
      by false true false false e i _ at _ _ _ _ = record { kinds = h.kinds; files = table_alike (seen files_no) state.files servers.files.table h.files (now files_no) (alike files_no (not_at audit_no files_no at refl)); audit = cross_table (seen audit_no) state.audit servers.audit.table h.audit tid (now audit_no) (hidden audit_no (eqb-true server audit_no at)); names = table_alike (seen names_no) state.names servers.names.table h.names (now names_no) (alike names_no (not_at audit_no names_no at refl)); timers = timers_alike (seen timers_no) state.timers servers.timers.timers h.timers (now timers_no) (alike timers_no (not_at audit_no timers_no at refl)); windows = table_alike (seen windows_no) state.windows servers.windows.table h.windows (now windows_no) (alike windows_no (not_at audit_no windows_no at refl)); scratch = table_alike (seen scratch_no) state.scratch servers.scratch.table h.scratch (now scratch_no) (alike scratch_no (not_at audit_no scratch_no at refl)); doubts = doubts_alike (seen names_no) state.doubts servers.names.table h.doubts (now names_no) (alike names_no (not_at audit_no names_no at refl)) }
      by false false false false true i _ _ _ _ at _ = record { kinds = h.kinds; files = table_alike (seen files_no) state.files servers.files.table h.files (now files_no) (alike files_no (not_at windows_no files_no at refl)); audit = table_alike (seen audit_no) state.audit servers.audit.table h.audit (now audit_no) (alike audit_no (not_at windows_no audit_no at refl)); names = table_alike (seen names_no) state.names servers.names.table h.names (now names_no) (alike names_no (not_at windows_no names_no at refl)); timers = timers_alike (seen timers_no) state.timers servers.timers.timers h.timers (now timers_no) (alike timers_no (not_at windows_no timers_no at refl)); windows = cross_table (seen windows_no) state.windows servers.windows.table h.windows tid (now windows_no) (hidden windows_no (eqb-true server windows_no at)); scratch = table_alike (seen scratch_no) state.scratch servers.scratch.table h.scratch (now scratch_no) (alike scratch_no (not_at windows_no scratch_no at refl)); doubts = doubts_alike (seen names_no) state.doubts servers.names.table h.doubts (now names_no) (alike names_no (not_at windows_no names_no at refl)) }
      by false false false false false true _ _ _ _ _ at = record { kinds = h.kinds; files = table_alike (seen files_no) state.files servers.files.table h.files (now files_no) (alike files_no (not_at scratch_no files_no at refl)); audit = table_alike (seen audit_no) state.audit servers.audit.table h.audit (now audit_no) (alike audit_no (not_at scratch_no audit_no at refl)); names = table_alike (seen names_no) state.names servers.names.table h.names (now names_no) (alike names_no (not_at scratch_no names_no at refl)); timers = timers_alike (seen timers_no) state.timers servers.timers.timers h.timers (now timers_no) (alike timers_no (not_at scratch_no timers_no at refl)); windows = table_alike (seen windows_no) state.windows servers.windows.table h.windows (now windows_no) (alike windows_no (not_at scratch_no windows_no at refl)); scratch = cross_table (seen scratch_no) state.scratch servers.scratch.table h.scratch tid (now scratch_no) (hidden scratch_no (eqb-true server scratch_no at)); doubts = doubts_alike (seen names_no) state.doubts servers.names.table h.doubts (now names_no) (alike names_no (not_at scratch_no names_no at refl)) }
      by false false false false false false p q r s u v = record { kinds = h.kinds; files = table_alike (seen files_no) state.files servers.files.table h.files (now files_no) (alike files_no (differ files_no server p)); audit = table_alike (seen audit_no) state.audit servers.audit.table h.audit (now audit_no) (alike audit_no (differ audit_no server q)); names = table_alike (seen names_no) state.names servers.names.table h.names (now names_no) (alike names_no (differ names_no server r)); timers = timers_alike (seen timers_no) state.timers servers.timers.timers h.timers (now timers_no) (alike timers_no (differ timers_no server s)); windows = table_alike (seen windows_no) state.windows servers.windows.table h.windows (now windows_no) (alike windows_no (differ windows_no server u)); scratch = table_alike (seen scratch_no) state.scratch servers.scratch.table h.scratch (now scratch_no) (alike scratch_no (differ scratch_no server v)); doubts = doubts_alike (seen names_no) state.doubts servers.names.table h.doubts (now names_no) (alike names_no (differ names_no server r)) }

  -- while the node is up
  pub crossed_up : state.up ≡ true → HoldsServers now (crossed_node tid server state) servers
  crossed_up up = subst (λ (b : Bool). HoldsServers now (if b then crossed_server tid server state else state) servers) (sym up) crossed_servers
