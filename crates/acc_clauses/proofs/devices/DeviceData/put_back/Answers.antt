use Rattle.std.proofs.Common.{◌≡◌, ℕ, refl, sym, subst, replicate, Bool, true, false, List, Result, Ok, Err, OnOk}
use Rattle.std.specs.Prelude.{not, ◌&&◌, ◌||◌}
use Rattle.std.specs.Result.{IsOk}
use Rattle.acc_base.specs.declared.mappings.Block.{Block}
use Rattle.acc_base.specs.declared.loans.Loan.{Loan}
use Rattle.acc_base.specs.Loans.{Leased}
use Rattle.acc_base.specs.Records.{Memory}
use Rattle.acc_base.specs.Bytes.{bytes_of}
use Rattle.acc_base.specs.Leases.{is_of_loan, is_kept_outside, is_returnable}
use Rattle.acc_dev.specs.Device.{number_at, IsPutBack}
use Rattle.acc_base.specs.Limits.{limits_on}
use Rattle.acc_clauses.specs.Contents.{beside, ArePartsSound}
use Rattle.acc_clauses.specs.Devices.{DeviceContents}
use Rattle.acc_clauses.proofs.Lends.{number_told, gathered_parts}
use Rattle.acc_clauses.proofs.devices.DeviceData.put_back.Goals as goal

on_ok : {A E P : Type 0} (r : Result A E) → IsOk r → OnOk r P → P
on_ok (Ok x) ok p = p
on_ok (Err e) ok p = cc

both_true : (a b : Bool) → a && b ≡ true → a && true ≡ true
both_true true b h = refl
both_true false b h = h

-- what a lease that comes back has beside a copy that was kept, it has without the copy
not_compared : (full : Bool) (d : ℕ) (lease : Leased) (blocks : List Block) (loans : List Loan) (memories : List Memory) → is_returnable full d lease blocks loans memories ≡ true → is_returnable false d lease blocks loans memories ≡ true
not_compared full d lease blocks loans memories h = both_true (is_of_loan d lease blocks loans) (not full || is_kept_outside lease (bytes_of lease.block memories)) h

pub invariant_of-self : goal.invariant_of-self
invariant_of-self c =
    let p = c.self.inside in
    let fits : is_returnable p.config.full p.number c.args.lease p.environment.device.blocks p.environment.device.loans p.environment.device.memories ≡ true
    = subst (λ (k : DeviceContents). is_returnable k.limits.full k.limits.number c.args.lease k.device.records.blocks k.device.records.loans k.device.memories ≡ true) (sym c.self.view_is) c.requires in
    let device = subst (λ n. is_returnable p.config.full n c.args.lease p.environment.device.blocks p.environment.device.loans p.environment.device.memories ≡ true) (sym (number_told (limits_on p.number p.config) (beside p.environment (replicate p.config.host 0)) c.self.invariant.sized)) fits in
    let put : IsPutBack p.environment.device c.put_back.new.self c.args.lease = on_ok c.put_back.result (c.put_back.ensures.fits.1 (not_compared p.config.full (number_at p.environment.device.memory.start) c.args.lease p.environment.device.blocks p.environment.device.loans p.environment.device.memories device)) c.put_back.ensures.put in
    subst (λ k. ArePartsSound (limits_on p.number p.config) (record (beside p.environment (replicate p.config.host 0)) { device = c.put_back.new.self }) k) (sym c.saturating_sub-self-inside.ensures) (gathered_parts (limits_on p.number p.config) (beside p.environment (replicate p.config.host 0)) p.lent c.put_back.new.self c.args.lease c.self.invariant fits put)
