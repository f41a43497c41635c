-- The examples' bytes, by computation.
use Rattle.std.proofs.Common.{◌≡◌, refl}
use Rattle.x86_table.specs.Spelling.{word_bytes, memory_modrm, byte_modrm, word_modrm, pair_form, pair_body, pair_override, immediate_width, immediate_body, immediate_override, target_width, target_body, target_override}
use Rattle.code_templates.specs.code_lines.Operands.{displaced}
use Rattle.code_templates.specs.code_lines.Example.{successor_bytes, repeated_bytes, copy_bytes, outer_bytes, quotient_bytes, successor_code, repeated_code, copy_code, outer_code, quotient_code}

pub successor_is : successor_code ≡ successor_bytes
unfolding displaced word_bytes memory_modrm byte_modrm word_modrm pair_form pair_body pair_override immediate_width immediate_body immediate_override target_width target_body target_override
successor_is = refl

pub repeated_is : repeated_code ≡ repeated_bytes
unfolding displaced word_bytes memory_modrm byte_modrm word_modrm pair_form pair_body pair_override immediate_width immediate_body immediate_override target_width target_body target_override
repeated_is = refl

pub copy_is : copy_code ≡ copy_bytes
unfolding displaced word_bytes memory_modrm byte_modrm word_modrm pair_form pair_body pair_override immediate_width immediate_body immediate_override target_width target_body target_override
copy_is = refl

pub outer_is : outer_code ≡ outer_bytes
unfolding displaced word_bytes memory_modrm byte_modrm word_modrm pair_form pair_body pair_override immediate_width immediate_body immediate_override target_width target_body target_override
outer_is = refl

pub quotient_is : quotient_code ≡ quotient_bytes
unfolding displaced word_bytes memory_modrm byte_modrm word_modrm pair_form pair_body pair_override immediate_width immediate_body immediate_override target_width target_body target_override
quotient_is = refl
