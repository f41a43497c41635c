-- Types by the places where they were declared, which are the same in all units that name them.
use Rattle.std.specs.Prelude.{◌≡◌, ℕ, Bool, List, map, Option}
use Rattle.std.specs.Option.{option_map}
use Rattle.tp_meaning.specs.type_layout.declared.definitions.TypeId.{TypeId}
use Rattle.tp_meaning.specs.type_layout.declared.definitions.Kind.{Kind}
use Rattle.tp_meaning.specs.type_layout.declared.definitions.Field.{Field}
use Rattle.tp_meaning.specs.type_layout.declared.definitions.Param.{Param}
use Rattle.tp_meaning.specs.type_layout.declared.definitions.Header.{Header}
use Rattle.tp_meaning.specs.type_layout.declared.definitions.Method.{Method}
use Rattle.tp_meaning.specs.type_layout.declared.definitions.TypeDef.{TypeDef}
use Rattle.tp_meaning.specs.type_layout.declared.definitions.TypeDef.TheVariants as type
use Rattle.tp_meaning.specs.type_layout.Table.{Table}
use Rattle.tp_meaning.specs.Trees.{Key}
use Rattle.tp_meaning.specs.Programs.{class_key, method_key}

-- where a type of a table was declared
abbrev pub declared : Table → TypeId → Option Key
declared table ty = class_key (record { table = table; ty = ty })

-- a header whatever the names of its parameters, and whatever table has its types
pub record DeclaredHeader : Type 0 where
  pub kind : Kind
  pub params : List (Bool × Option Key)
  pub result : Option (Option Key)

abbrev pub declared_param : Table → Param → Bool × Option Key
declared_param table param = (param.by_ref, declared table param.ty)

abbrev pub declared_header : Table → Header → DeclaredHeader
declared_header table header = record {
  kind = header.kind;
  params = map (declared_param table) header.params;
  result = option_map (declared table) header.result;
}

abbrev pub declared_fields : Table → List Field → List (Option Key)
declared_fields table fields = map (λ (field : Field). declared table field.ty) fields

pub record DeclaredMethod : Type 0 where
  pub name : List ℕ
  pub header : DeclaredHeader
  pub is_virtual : Bool
  pub routine : Option Key

abbrev pub declared_method : Table → Method → DeclaredMethod
declared_method table method = record {
  name = method.name;
  header = declared_header table method.header;
  is_virtual = method.is_virtual;
  routine = method_key table method;
}

-- two definitions of one type, each in a table of its own
abbrev pub AreAlike : Table → TypeDef → Table → TypeDef → Type 0
AreAlike a (type.Ordinal host low high) b (type.Ordinal host' low' high') = (host ≡ host') × (low ≡ low') × (high ≡ high')
AreAlike a (type.Str max) b (type.Str max') = max ≡ max'
AreAlike a (type.SetOf base) b (type.SetOf base') = declared a base ≡ declared b base'
AreAlike a (type.ArrayOf index element) b (type.ArrayOf index' element') = (declared a index ≡ declared b index') × (declared a element ≡ declared b element')
AreAlike a (type.RecordOf fields) b (type.RecordOf fields') = declared_fields a fields ≡ declared_fields b fields'
AreAlike a (type.PointerTo target) b (type.PointerTo target') = declared a target ≡ declared b target'
AreAlike a (type.ObjectOf parent dynamic fields methods) b (type.ObjectOf parent' dynamic' fields' methods') =
    (option_map (declared a) parent ≡ option_map (declared b) parent') × (dynamic ≡ dynamic') × (declared_fields a fields ≡ declared_fields b fields')
    × (map (declared_method a) methods ≡ map (declared_method b) methods')
AreAlike a (type.Procedural header) b (type.Procedural header') = declared_header a header ≡ declared_header b header'
AreAlike a one b other = ⊥
