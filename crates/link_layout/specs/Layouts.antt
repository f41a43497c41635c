-- Where code, stubs, data, stack and heap of a program lie, counted in paragraphs from the image's start.
use Rattle.std.specs.Prelude.{◌≡◌, ℕ, ◌+◌, ◌*◌, ◌≤◌, ◌<◌, List, map}
use Rattle.link_layout.specs.declared.error.LayoutError.{LayoutError}
use Rattle.link_layout.specs.declared.error.LayoutError.TheVariants.{DataTooLarge, ImageTooLarge, TooManyRelocations, NoMemory}
use Rattle.link_layout.specs.declared.layout.Layout.{Layout}
use Rattle.link_layout.specs.declared.layout.Sizes.{Sizes}
use Rattle.link_layout.specs.Sums.{paragraphs, total, sums_from}

-- a stub has 32 bytes of fields, and 5 for each entry
abbrev pub stub_size : ℕ → ℕ
stub_size entries = 32 + 5 * entries

-- the paragraphs of each resident unit's code, and of each stub
abbrev pub code_paragraphs : Sizes → List ℕ
code_paragraphs sizes = map paragraphs sizes.resident

abbrev pub stub_paragraphs : Sizes → List ℕ
stub_paragraphs sizes = map paragraphs (map stub_size sizes.entries)

-- Code stands first, each unit's on a paragraph; then the stubs; then the data segment, with which the image ends. The stack and the heap follow it.
abbrev pub first_stub : Sizes → ℕ
first_stub sizes = total (code_paragraphs sizes)

abbrev pub data_place : Sizes → ℕ
data_place sizes = first_stub sizes + total (stub_paragraphs sizes)

abbrev pub image_size : Sizes → ℕ
image_size sizes = data_place sizes + paragraphs sizes.bytes

abbrev pub heap_place : Sizes → ℕ
heap_place sizes = image_size sizes + paragraphs sizes.stack

abbrev pub layout_of : Sizes → Layout
layout_of sizes = record {
  resident = sums_from 0 (code_paragraphs sizes);
  stubs = sums_from (first_stub sizes) (stub_paragraphs sizes);
  data_segment = data_place sizes;
  stack_segment = image_size sizes;
  heap_segment = heap_place sizes;
  extra = paragraphs sizes.stack + paragraphs sizes.heap;
}

-- ## Limits

abbrev pub HasRoom : Sizes → Type 0
HasRoom sizes = (sizes.bytes ≤ 65520) × (image_size sizes ≤ 40848) × (sizes.relocations ≤ 65535)

-- The first limit that is passed, in the order of data, image and relocations, with the number that passes it.
abbrev pub IsRefused : Sizes → LayoutError → Type 0
IsRefused sizes (DataTooLarge bytes) = (bytes ≡ sizes.bytes) × (65520 < bytes)
IsRefused sizes (ImageTooLarge paragraphs) = (sizes.bytes ≤ 65520) × (paragraphs ≡ image_size sizes) × (40848 < paragraphs)
IsRefused sizes (TooManyRelocations count) = (sizes.bytes ≤ 65520) × (image_size sizes ≤ 40848) × (count ≡ sizes.relocations) × (65535 < count)
IsRefused sizes NoMemory = Unit {0}
