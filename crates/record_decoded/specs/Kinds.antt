-- The kinds, roles and attributes of the code as those of the model, roles also by the numbers that arrays hold; a kind's row.
use Rattle.std.specs.Prelude.{ℕ, zero, suc, ◌≡◌, length, get_or}
use Rattle.model.specs.Execution as model
use Rattle.record_decoded.specs.declared.kind.Kind.{Kind}
use Rattle.record_decoded.specs.declared.kind.KindRow.{KindRow}
use Rattle.record_decoded.specs.declared.kind.Kind.TheVariants.{Ld, LdAcq, St, StRel, Mf, SemAcq, SemRel}
use Rattle.record_decoded.specs.declared.kind.Role.{Role}
use Rattle.record_decoded.specs.declared.kind.Role.TheVariants.{R, LV, F, RV}
use Rattle.record_decoded.specs.declared.kind.Attribute.{Attribute}
use Rattle.record_decoded.specs.declared.kind.Attribute.TheVariants.{WB, UC, WC}

-- a kind of the code as that of the model
abbrev pub meant : Kind → model.Kind
meant Ld = model.ld
meant LdAcq = model.ld_acq
meant St = model.st
meant StRel = model.st_rel
meant Mf = model.mf
meant SemAcq = model.sem_acq
meant SemRel = model.sem_rel

-- a role by its number: R 0, LV 1, F 2, RV_q 3 + q
abbrev pub role_numbered : ℕ → model.Role
role_numbered zero = model.R
role_numbered (suc zero) = model.LV
role_numbered (suc (suc zero)) = model.F
role_numbered (suc (suc (suc q))) = model.RV q

-- A kind's row of the code as that of the model: how many operations come before the RVs, and the role of the first, stand for their list.
pub record RowMeans (n : KindRow) (r : model.KindRow) : Type 0 where
  pub reads_is : n.loads ≡ r.reads
  pub writes_is : n.stores ≡ r.writes
  pub acquires_is : n.acquires ≡ r.acquires
  pub releases_is : n.releases ≡ r.releases
  pub fences_is : n.fences ≡ r.fences
  pub row_is : n.row ≡ r.row
  pub column_is : n.column ≡ r.column
  pub before_is : n.before_remotes ≡ length r.before_remotes
  pub first_is : role_numbered n.first_role ≡ get_or r.before_remotes 0 model.F

-- a role of the code as that of the model
abbrev pub role_meant : Role → model.Role
role_meant R = model.R
role_meant LV = model.LV
role_meant F = model.F
role_meant (RV q) = model.RV q

-- the processor of an RV; of another role 0
abbrev pub role_processor : Role → ℕ
role_processor R = 0
role_processor LV = 0
role_processor F = 0
role_processor (RV q) = q

-- an attribute of the code as that of the model
abbrev pub attribute_meant : Attribute → model.Attribute
attribute_meant WB = model.WB
attribute_meant (UC d) = model.UC d
attribute_meant WC = model.WC
