-- First values are read back.
use Rattle.std.proofs.Common.{◌≡◌, refl, ◌∙◌}
use Rattle.tp_check_decl.specs.pascal_grammar.declared.lexeme.Position.{Position}
use Rattle.tp_check_decl.specs.syntax_tree.Expressions.{word}
use Rattle.tp_check_decl.specs.syntax_tree.declared.type_tree.initializer.Initializer.{Initializer, Row_of-Initializer, end_of-Initializer, more_of-Initializer, Row_of-FieldValue, end_of-FieldValue, more_of-FieldValue}
use Rattle.tp_check_decl.specs.syntax_tree.declared.type_tree.initializer.Initializer.TheVariants as v
use Rattle.tp_check_decl.specs.syntax_tree.declared.type_tree.initializer.FieldValue.TheVariants as f
use Rattle.tp_check_decl.specs.syntax_tree.type_tree.Types.{simple_of}
use Rattle.tp_check_decl.specs.syntax_tree.type_tree.Initializers.{of_initializer, first_of, more_initializers, field_values, more_field_values}
use Rattle.tp_check_decl.specs.ll1_grammar.whole_trees.Whole.{IsWhole}
use Rattle.address_independence.specs.yields.Written as w
use Rattle.address_independence.specs.yields.Reading.{meant}
use Rattle.address_independence.specs.yields.Trees.{initial_in, initials_in, named_in}
use Rattle.address_independence.proofs.yields.Expressions.{no_terms, simple_read}
use Rattle.address_independence.proofs.yields.Shapes.{is_simple}
use Rattle.address_independence.proofs.yields.Regrouped.{value_regrouped, value_whole, first_regrouped, first_whole}

mutual
  pub initial_read : (one : Initializer) → IsWhole (of_initializer one) → (meant (of_initializer one)).first ≡ initial_in one
  initial_read (v.Value x) h =
      let shape = is_simple x in
      value_regrouped (simple_of x) shape h ∙ λ i. w.value (simple_read x no_terms (value_whole (simple_of x) shape h) i)
  initial_read (v.List' here shape all) h = firsts_read all here h.0.1.0
  initial_read (v.Record' here shape all) h = fields_read all here h.0.1.0

  firsts_read : {n : _} (all : Row_of-Initializer n) (here : Position) → IsWhole (first_of all) → (meant (first_of all)).opened here ≡ w.list here.place (initials_in all)
  firsts_read end_of-Initializer here h = absurd h
  firsts_read (more_of-Initializer (v.Value x) all) here h =
      let shape = is_simple x in
      let whole = first_whole (simple_of x) (more_initializers all) word shape h in
      first_regrouped (simple_of x) (more_initializers all) word here shape h
      ∙ λ i. w.list here.place (w.and_initial (w.value (simple_read x no_terms whole.0 i)) (more_read all whole.1 i))
  firsts_read (more_of-Initializer (v.List' at shape inner) all) here h =
      λ i. w.list here.place (w.and_initial (firsts_read inner at h.0.1.0 i) (more_read all h.1.0 i))
  firsts_read (more_of-Initializer (v.Record' at shape inner) all) here h =
      λ i. w.list here.place (w.and_initial (fields_read inner at h.0.1.0 i) (more_read all h.1.0 i))

  more_read : {n : _} (all : Row_of-Initializer n) → IsWhole (more_initializers all) → (meant (more_initializers all)).firsts ≡ initials_in all
  more_read end_of-Initializer h = refl
  more_read (more_of-Initializer x all) h = λ i. w.and_initial (initial_read x h.1.0 i) (more_read all h.1.1.0 i)

  fields_read : {n : _} (all : Row_of-FieldValue n) (here : Position) → IsWhole (field_values all) → (meant (field_values all)).opened here ≡ w.fields here.place (named_in all)
  fields_read end_of-FieldValue here h = absurd h.0
  fields_read (more_of-FieldValue (f.Field name x) all) here h = λ i. w.fields here.place (w.and_named name (initial_read x h.1.0.1.0 i) (more_fields_read all h.1.0.1.1.0 i))

  more_fields_read : {n : _} (all : Row_of-FieldValue n) → IsWhole (more_field_values all) → (meant (more_field_values all)).named_firsts ≡ named_in all
  more_fields_read end_of-FieldValue h = refl
  more_fields_read (more_of-FieldValue (f.Field name x) all) h = λ i. w.and_named name (initial_read x h.1.1.1.0 i) (more_fields_read all h.1.1.1.1.0 i)
