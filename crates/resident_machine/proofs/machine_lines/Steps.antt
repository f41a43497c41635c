-- Runs one after another, and what they are runs of.
use Rattle.std.proofs.Common.{◌≡◌, ℕ, zero, suc, ◌+◌, Bool, true, false, arith, sym, subst}
use Rattle.resident_machine.specs.Program.{Program}
use Rattle.resident_machine.specs.Run.{Runs, RunsFramed}
use Rattle.resident_machine.specs.State.{ResidentState, NoService}
use Rattle.resident_machine.specs.machine_lines.Steps.{Owed, Leads}

-- nothing is owed where no service may follow
pub nothing_owed : (framed : Bool) (p : Program) (t : ResidentState) → Owed framed p NoService t
nothing_owed true p t = tt
nothing_owed false p t = tt

pub leads_on : (p : Program) (framed : Bool) (m n : ℕ) (r t u : ResidentState) → Leads p framed m r t → Leads p framed n t u → Leads p framed (m + n) r u
leads_on p framed zero n r t u a b =
    let e : n ≡ zero + n = omega arith in
    subst (λ k. Leads p framed k r u) e (subst (λ s. Leads p framed n s u) (sym a) b)
leads_on p framed (suc m) n r t u a b =
    let e : suc (m + n) ≡ suc m + n = omega arith in
    subst (λ k. Leads p framed k r u) e (a.0, a.1, leads_on p framed m n a.0 t u a.2 b)

pub leads_run : (p : Program) (framed : Bool) (n : ℕ) (r t : ResidentState) → Leads p framed n r t → Runs p n r t
leads_run p framed zero r t h = h
leads_run p framed (suc n) r t h = (h.0, h.1.service, h.1.goes, leads_run p framed n h.0 t h.2)

pub leads_framed : (p : Program) (n : ℕ) (r t : ResidentState) → Leads p true n r t → RunsFramed p n r t
leads_framed p zero r t h = h
leads_framed p (suc n) r t h = (h.0, h.1.service, h.1.goes, h.1.owed, leads_framed p n h.0 t h.2)
