-- How the tables of a log agree with its operations.
use Rattle.std.specs.Prelude.{◌≡◌, ℕ, suc, ◌≤◌, List, length, slice_get, Some, Contains, AllPairs, map, filter, ◌==◌}
use Rattle.operations.specs.Operation.{Operation, Begins}
use Rattle.operations.specs.declared.op.TheConstants.{MAX_STAMP}
use Rattle.tree_order.specs.Good.{file_before}
use Rattle.set_laws.specs.Fronts.{front_of, greatest_stamp}
use Rattle.set_laws.specs.Sets.{AreIdentified}
use Rattle.op_log.specs.declared.site_log.Entry.{Entry}
use Rattle.op_log.specs.Tables.{LogTables, SiteSeen, log_table}

-- the entry tells where the site's operation of this seq stands, where the site's file ends after it, and the
-- operation's stamp
pub record IsEntryOf (ops : List Operation) (site seq : ℕ) (e : Entry) : Type 0 where
  pub op : Operation
  pub there : slice_get ops e.index ≡ Some op
  pub on : op.site ≡ site
  pub at : op.seq ≡ seq
  pub ends : e.end ≡ file_before ops site (suc seq)
  pub stamped : e.stamp ≡ op.stamp

-- the table has the site's operations up to its front
pub record IsTableOf (ops : List Operation) (site : ℕ) (t : SiteSeen) : Type 0 where
  pub entries : (k : ℕ) (e : Entry) → slice_get t.entries k ≡ Some e → IsEntryOf ops site (suc k) e
  pub front : length t.entries ≡ front_of ops site

-- the tables are those of the operations, of which each has an identity of its own, and each Insert of which begins
-- where its site's file ended
pub record AreLogged (ops : List Operation) (tables : LogTables) (stamp : ℕ) : Type 0 where
  pub by_site : (site : ℕ) → IsTableOf ops site (log_table tables site)
  pub greatest : stamp ≡ greatest_stamp ops
  pub low : stamp ≤ MAX_STAMP
  pub known : AreIdentified ops
  pub once : AllPairs (λ a b. a.site ≡ b.site → a.seq ≡ b.seq → ⊥) ops
  pub begins : (op : Operation) → Contains ops op → Begins op.kind (file_before ops op.site op.seq)

-- the sites of the operations that are the first of theirs
abbrev pub first_sites : List Operation → List ℕ
first_sites ops = map (λ op. op.site) (filter (λ op. op.seq == 1) ops)
