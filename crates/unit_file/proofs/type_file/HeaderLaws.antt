-- Numbers of types, fields, headers and methods: what is read is spelled so, and what is spelled so is read again.
use Rattle.std.proofs.Common.{◌≡◌, ℕ, zero, suc, ◌<◌, Bool, List, [], ◌∷◌, length, Option, Some, None, refl, arith}
use Rattle.std.specs.Prelude.{IsTrue, IfSome, nat_lt, ◌==◌, option_map}
use Rattle.std.proofs.lemmas.Bool.{eqb-true, eq-eqb}
use Rattle.std.proofs.lemmas.Bool.Decides.{nat_tests}
use Rattle.type_layout.specs.declared.definitions.Host.{Host}
use Rattle.type_layout.specs.declared.definitions.Host.TheVariants.{ShortInt, Byte, Integer, Word, LongInt, Char, Boolean, Enumeration}
use Rattle.type_layout.specs.declared.definitions.Kind.{Kind}
use Rattle.type_layout.specs.declared.definitions.Kind.TheVariants.{Procedure, Function, Constructor, Destructor}
use Rattle.type_layout.specs.declared.definitions.TypeId.{TypeId}
use Rattle.object_file.specs.file_parts.Spelling.{list_text, FitEach, IsLong, IsLongOption}
use Rattle.object_file.specs.file_parts.Parts.{Reader, any, list_of}
use Rattle.object_file.proofs.file_parts.Laws.{Meets, MadeOf, fits_as, ruled_meets, then_meets, made_meets, record_meets}
use Rattle.object_file.proofs.file_parts.PartLaws.{byte_text, IsByte, byte_meets, long_meets, list_meets}
use Rattle.object_file.proofs.file_parts.ValueLaws.{truth_meets, option_meets, name_meets}
use Rattle.unit_file.specs.type_file.Text.{host_number, kind_number, id_text, id_number, id_option_text, field_text, param_text, header_text, method_text, IsId, IsField, IsParam, IsHeader, IsMethod}
use Rattle.unit_file.specs.type_file.Reading.{host_of, host_at, kind_of, kind_at, id_of, id_where, id_at, passes, id_option_where, field_of, field_at, fields_at, param_of, param_at, params_at, header_of, header_at, method_of, method_at, methods_at}

-- a list whose items are read alike
pub list_of_meets : {A : Type 0} {read : Reader A} {text : A → List ℕ} {F : A → Type 0} → Meets read text F → Meets (list_of read) (list_text text) (λ items. IsLong (length items) × FitEach F items)
list_of_meets {F = F} meets =
    fits_as (λ items. IsLong (length items) × FitEach F items) (list_meets {F = λ _ item. F item} any (λ (state : Unit {0}) _. state) tt (λ _. meets)) (λ items fits. (fits.0.0, fits.1)) (λ items fits. ((fits.0, refl), fits.1))

-- hosts and kinds
host_made : (number : ℕ) → IsByte number × IsTrue (nat_lt number 8) → (host_number (host_of number) ∷ [] ≡ byte_text number) × Unit {0}
host_made zero fits = (refl, tt)
host_made (suc zero) fits = (refl, tt)
host_made (suc (suc zero)) fits = (refl, tt)
host_made (suc (suc (suc zero))) fits = (refl, tt)
host_made (suc (suc (suc (suc zero)))) fits = (refl, tt)
host_made (suc (suc (suc (suc (suc zero))))) fits = (refl, tt)
host_made (suc (suc (suc (suc (suc (suc zero)))))) fits = (refl, tt)
host_made (suc (suc (suc (suc (suc (suc (suc zero))))))) fits = (refl, tt)
host_made (suc (suc (suc (suc (suc (suc (suc (suc number)))))))) fits = absurd (grind (arith, nat_tests, fits.1))

abbrev IsHostNumber : ℕ → Type 0
IsHostNumber number = IsByte number × IsTrue (nat_lt number 8)

host_parts : (host : Host) → Unit {0} → MadeOf host_of IsHostNumber host
host_parts ShortInt fits = record { parts = 0; is_made = refl; fits = (omega arith, refl) }
host_parts Byte fits = record { parts = 1; is_made = refl; fits = (omega arith, refl) }
host_parts Integer fits = record { parts = 2; is_made = refl; fits = (omega arith, refl) }
host_parts Word fits = record { parts = 3; is_made = refl; fits = (omega arith, refl) }
host_parts LongInt fits = record { parts = 4; is_made = refl; fits = (omega arith, refl) }
host_parts Char fits = record { parts = 5; is_made = refl; fits = (omega arith, refl) }
host_parts Boolean fits = record { parts = 6; is_made = refl; fits = (omega arith, refl) }
host_parts Enumeration fits = record { parts = 7; is_made = refl; fits = (omega arith, refl) }

pub host_meets : Meets host_at (λ host. host_number host ∷ []) (λ _. Unit {0})
unfolding host_at
host_meets = made_meets host_of (λ host. host_number host ∷ []) (λ _. Unit {0}) (ruled_meets (λ (number : ℕ). nat_lt number 8) byte_meets) host_made host_parts

kind_made : (number : ℕ) → IsByte number × IsTrue (nat_lt number 4) → (kind_number (kind_of number) ∷ [] ≡ byte_text number) × Unit {0}
kind_made zero fits = (refl, tt)
kind_made (suc zero) fits = (refl, tt)
kind_made (suc (suc zero)) fits = (refl, tt)
kind_made (suc (suc (suc zero))) fits = (refl, tt)
kind_made (suc (suc (suc (suc number)))) fits = absurd (grind (arith, nat_tests, fits.1))

abbrev IsKindNumber : ℕ → Type 0
IsKindNumber number = IsByte number × IsTrue (nat_lt number 4)

kind_parts : (kind : Kind) → Unit {0} → MadeOf kind_of IsKindNumber kind
kind_parts Procedure fits = record { parts = 0; is_made = refl; fits = (omega arith, refl) }
kind_parts Function fits = record { parts = 1; is_made = refl; fits = (omega arith, refl) }
kind_parts Constructor fits = record { parts = 2; is_made = refl; fits = (omega arith, refl) }
kind_parts Destructor fits = record { parts = 3; is_made = refl; fits = (omega arith, refl) }

kind_meets : Meets kind_at (λ kind. kind_number kind ∷ []) (λ _. Unit {0})
unfolding kind_at
kind_meets = made_meets kind_of (λ kind. kind_number kind ∷ []) (λ _. Unit {0}) (ruled_meets (λ (number : ℕ). nat_lt number 4) byte_meets) kind_made kind_parts

-- numbers of types
pub id_meets : (rule : ℕ → Bool) → Meets (id_where rule) id_text (λ id. IsLong id.0 × IsTrue (rule id.0))
unfolding id_where
id_meets rule = record_meets id_of id_number (λ id. refl) (λ number. refl) (ruled_meets rule long_meets)

pub id_below_meets : (count : ℕ) → Meets (id_at count) id_text (IsId count)
id_below_meets count = fits_as (IsId count) (id_meets (λ number. nat_lt number count)) (λ id fits. (fits.0, grind (arith, nat_tests, fits.1))) (λ id fits. (fits.0, grind (arith, nat_tests, fits.1)))

option_there : (number : Option ℕ) → option_map id_number (option_map id_of number) ≡ number
option_there None = refl
option_there (Some number) = refl

option_back : (id : Option TypeId) → option_map id_of (option_map id_number id) ≡ id
option_back None = refl
option_back (Some id) = refl

pub id_option_meets : (rule : ℕ → Bool) → Meets (id_option_where rule) id_option_text (λ id. IsLongOption (option_map id_number id) × IsTrue (passes rule (option_map id_number id)))
unfolding id_option_where
id_option_meets rule = record_meets (option_map id_of) (option_map id_number) option_back option_there (ruled_meets (passes rule) option_meets)

passes_to : (count : ℕ) (id : Option TypeId) → IsTrue (passes (λ number. nat_lt number count) (option_map id_number id)) → IfSome id (λ id. id.0 < count)
passes_to count None holds = tt
passes_to count (Some id) holds = grind (arith, nat_tests, holds)

passes_from : (count : ℕ) (id : Option TypeId) → IfSome id (λ id. id.0 < count) → IsTrue (passes (λ number. nat_lt number count) (option_map id_number id))
passes_from count None holds = refl
passes_from count (Some id) holds = grind (arith, nat_tests, holds)

-- fields, parameters and headers
field_meets : (count : ℕ) → Meets (field_at count) field_text (IsField count)
unfolding field_at field_text
field_meets count = record_meets field_of (λ field. (field.name, field.ty)) (λ field. refl) (λ parts. refl) (then_meets name_meets (id_below_meets count))

pub fields_meets : (count : ℕ) → Meets (fields_at count) (list_text field_text) (λ fields. IsLong (length fields) × FitEach (IsField count) fields)
unfolding fields_at
fields_meets count = list_of_meets (field_meets count)

param_meets : (count : ℕ) → Meets (param_at count) param_text (IsParam count)
unfolding param_at param_text
param_meets count =
    fits_as (IsParam count)
    (record_meets param_of (λ param. (param.name, (param.by_ref, param.ty))) (λ param. refl) (λ parts. refl) (then_meets name_meets (then_meets truth_meets (id_below_meets count))))
    (λ param fits. (fits.0, fits.1.1)) (λ param fits. (fits.0, (tt, fits.1)))

params_meets : (count : ℕ) → Meets (params_at count) (list_text param_text) (λ params. IsLong (length params) × FitEach (IsParam count) params)
unfolding params_at
params_meets count = list_of_meets (param_meets count)

pub header_meets : (count : ℕ) → Meets (header_at count) header_text (IsHeader count)
unfolding header_at header_text
header_meets count =
    fits_as (IsHeader count)
    (record_meets header_of (λ header. (header.kind, (header.params, header.result))) (λ header. refl) (λ parts. refl)
    (then_meets kind_meets (then_meets (params_meets count) (id_option_meets (λ number. nat_lt number count)))))
    (λ header fits. record { params = fits.1.0.0; each_param = fits.1.0.1; result = (fits.1.1.0, passes_to count header.result fits.1.1.1) })
    (λ header fits. (tt, ((fits.params, fits.each_param), (fits.result.0, passes_from count header.result fits.result.1))))

-- methods
method_meets : (count place : ℕ) → Meets (method_at count place) method_text (IsMethod count place)
unfolding method_at method_text
method_meets count place =
    fits_as (IsMethod count place)
    (record_meets method_of (λ method. (method.name, (method.header, (method.is_virtual, (method.routine.unit, method.routine.number))))) (λ method. refl) (λ parts. refl)
    (then_meets name_meets (then_meets (header_meets count) (then_meets truth_meets (then_meets (ruled_meets (λ (unit : ℕ). unit == place) long_meets) long_meets)))))
    (λ method fits. record { name = fits.0; header = fits.1.0; unit = eqb-true method.routine.unit place fits.1.1.1.0.1; unit_long = fits.1.1.1.0.0; number = fits.1.1.1.1 })
    (λ method fits. (fits.name, (fits.header, (tt, ((fits.unit_long, eq-eqb method.routine.unit place fits.unit), fits.number)))))

pub methods_meets : (count place : ℕ) → Meets (methods_at count place) (list_text method_text) (λ methods. IsLong (length methods) × FitEach (IsMethod count place) methods)
unfolding methods_at
methods_meets count place = list_of_meets (method_meets count place)
